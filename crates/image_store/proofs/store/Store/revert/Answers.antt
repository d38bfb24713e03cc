use Rattle.std.proofs.Common.{refl, ap}
use Rattle.image_store.proofs.Stores.{store_of, named_still, revert_is, revert_volumes}
use Rattle.image_store.proofs.Unwritten.{reverted_lists}
use Rattle.image_store.proofs.store.Store.revert.Goals as goal

pub invariant_of-self : goal.invariant_of-self
invariant_of-self g c = named_still c.self.inside.group c.revert.new.self c.self.inside.names.items
    (revert_volumes g.D.Device c.self.inside.group c.revert.new.self c.args.set c.args.v c.revert.result c.revert.ensures) c.self.invariant

pub returns-clause-revert : goal.returns-clause-revert
returns-clause-revert g c =
    let is = revert_is g.D.Device (store_of c.self.inside.group c.self.inside.names.items c.self.inside.last)
    (store_of c.revert.new.self c.self.inside.names.items c.self.inside.last) c.args.set c.args.v c.revert.result refl (rw (← c.self.view_is) at c.requires) c.revert.ensures in
    rw (← c.self.view_is) is

pub returns-clause-lists : goal.returns-clause-lists
returns-clause-lists g c =
    let is = reverted_lists g.D.Device (store_of c.self.inside.group c.self.inside.names.items c.self.inside.last)
    (store_of c.revert.new.self c.self.inside.names.items c.self.inside.last) c.args.set c.args.v c.revert.result (rw (← c.self.view_is) at c.requires)
    (λ e. ap (λ x. store_of x c.self.inside.names.items c.self.inside.last) e) c.revert.ensures in
    rw (← c.self.view_is) is
