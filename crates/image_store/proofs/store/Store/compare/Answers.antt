use Rattle.std.proofs.Common.{refl}
use Rattle.std.proofs.lemmas.Result.{on_ok_weaker}
use Rattle.image_store.proofs.Stores.{store_of, named_still, still}
use Rattle.image_store.proofs.store.Store.compare.Goals as goal

pub invariant_of-self : goal.invariant_of-self
invariant_of-self g c = named_still c.self.inside.group c.compare_blocks.new.group c.self.inside.names.items (c.compare_blocks.ensures.kept.volumes) c.self.invariant

pub returns-clause-marked : goal.returns-clause-marked
returns-clause-marked g c =
    let is = on_ok_weaker c.compare_blocks.result (λ h wanted p told stands. h wanted p.volumes told stands.group) c.compare_blocks.ensures.marked in
    rw (← c.self.view_is) is

pub returns-clause-still : goal.returns-clause-still
returns-clause-still g c =
    let is = still g.D.Device.told (store_of c.self.inside.group c.self.inside.names.items c.self.inside.last)
    (store_of c.compare_blocks.new.group c.self.inside.names.items c.self.inside.last) c.compare_blocks.ensures.kept refl in
    rw (← c.self.view_is) is
