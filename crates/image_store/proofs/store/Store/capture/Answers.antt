use Rattle.std.proofs.Common.{refl}
use Rattle.image_store.proofs.Stores.{store_of, named_still, still}
use Rattle.image_store.proofs.store.Store.capture.Goals as goal

pub invariant_of-self : goal.invariant_of-self
invariant_of-self g c = named_still c.self.inside.group c.capture_blocks.new.group c.self.inside.names.items (c.capture_blocks.ensures.kept.volumes) c.self.invariant

pub returns-clause-still : goal.returns-clause-still
returns-clause-still g c =
    let is = still g.D.Device.told (store_of c.self.inside.group c.self.inside.names.items c.self.inside.last)
    (store_of c.capture_blocks.new.group c.self.inside.names.items c.self.inside.last) c.capture_blocks.ensures.kept refl in
    rw (← c.self.view_is) is
