use Rattle.std.proofs.Common.{refl}
use Rattle.image_store.proofs.Stores.{store_of, named_still, dropped_step, dropped_volumes}
use Rattle.image_store.proofs.Unwritten.{dropped_lists, dropped_stood}
use Rattle.image_store.proofs.UnderWay.{dropped_under_way}
use Rattle.image_store.proofs.store.Store.drop_image.Goals as goal

pub invariant_of-self : goal.invariant_of-self
invariant_of-self g c = named_still c.self.inside.group c.drop_image.new.self c.self.inside.names.items
    (dropped_volumes g.D.Device c.self.inside.group c.drop_image.new.self c.args.set c.args.v c.drop_image.result c.drop_image.ensures)
    c.self.invariant

pub returns-clause-dropped : goal.returns-clause-dropped
returns-clause-dropped g c =
    let is = dropped_step g.D.Device (store_of c.self.inside.group c.self.inside.names.items c.self.inside.last)
    (store_of c.drop_image.new.self c.self.inside.names.items c.self.inside.last) c.args.set c.args.v c.drop_image.result refl (rw (← c.self.view_is) at c.requires) c.drop_image.ensures in
    rw (← c.self.view_is) is

pub returns-clause-stood : goal.returns-clause-stood
returns-clause-stood g c = (let is = dropped_stood g.D.Device c.self.inside.group c.drop_image.new.self c.args.v c.args.set c.drop_image.result c.drop_image.ensures in rw (← c.self.view_is) is)

pub returns-clause-lists : goal.returns-clause-lists
returns-clause-lists g c =
    let is = dropped_lists g.D.Device c.self.inside.group c.drop_image.new.self c.args.v c.args.set c.drop_image.result (rw (← c.self.view_is) at c.requires) c.drop_image.ensures in
    rw (← c.self.view_is) is

pub returns-clause-under_way : goal.returns-clause-under_way
returns-clause-under_way g c = (let is = dropped_under_way g.D.Device c.self.inside.group c.drop_image.new.self c.args.v c.args.set c.drop_image.result c.drop_image.ensures in rw (← c.self.view_is) is)
