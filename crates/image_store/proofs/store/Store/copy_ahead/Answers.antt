use Rattle.std.proofs.Common.{refl}
use Rattle.image_store.proofs.Stores.{store_of, named_still, ahead}
use Rattle.image_store.proofs.UnderWay.{copy_under_way}
use Rattle.image_store.proofs.store.Store.copy_ahead.Goals as goal

pub invariant_of-self : goal.invariant_of-self
invariant_of-self g c = named_still c.self.inside.group c.copy_blocks.new.group c.self.inside.names.items (c.copy_blocks.ensures.volumes) c.self.invariant

pub returns-clause-ahead : goal.returns-clause-ahead
returns-clause-ahead g c =
    let is = ahead g.D.Device.told (store_of c.self.inside.group c.self.inside.names.items c.self.inside.last)
    (store_of c.copy_blocks.new.group c.self.inside.names.items c.self.inside.last) c.copy_blocks.new.gone.items c.copy_blocks.result refl c.copy_blocks.ensures.copying in
    rw (← c.self.view_is) is

pub returns-clause-under_way : goal.returns-clause-under_way
returns-clause-under_way g c =
    let old = store_of c.self.inside.group c.self.inside.names.items c.self.inside.last in
    let new = store_of c.copy_blocks.new.group c.self.inside.names.items c.self.inside.last in
    rw (← c.self.view_is)
    (λ committed p stands copies under. copy_under_way g.D.Device.told committed old new c.args.v c.args.differs.now c.args.from c.args.to c.args.copied.now
    c.copy_blocks.new.copied
    c.copy_blocks.new.gone.items c.copy_blocks.result p c.copy_blocks.ensures.copied
    (ahead g.D.Device.told old new c.copy_blocks.new.gone.items c.copy_blocks.result refl c.copy_blocks.ensures.copying p stands)
    stands copies under)
