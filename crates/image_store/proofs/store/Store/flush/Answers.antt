use Rattle.std.proofs.Common.{refl}
use Rattle.image_store.proofs.Plains.{quiet_kept}
use Rattle.image_store.proofs.Stores.{store_of, named_still, still, head_still}
use Rattle.image_store.proofs.UnderWay.{quiet_on}
use Rattle.image_store.proofs.store.Store.flush.Goals as goal

pub invariant_of-self : goal.invariant_of-self
invariant_of-self g c = named_still c.self.inside.group c.flush.new.self c.self.inside.names.items (c.flush.ensures.quiet.kept.volumes) c.self.invariant

pub returns-clause-still : goal.returns-clause-still
returns-clause-still g c =
    let is = still g.D.Device.told (store_of c.self.inside.group c.self.inside.names.items c.self.inside.last) (store_of c.flush.new.self c.self.inside.names.items c.self.inside.last)
    (quiet_kept g.D.Device c.self.inside.group c.flush.new.self c.flush.ensures.quiet) refl in
    rw (← c.self.view_is) is

pub returns-clause-head : goal.returns-clause-head
returns-clause-head g c =
    let is = head_still c.self.inside.group c.flush.new.self c.self.inside.names.items c.self.inside.last c.flush.ensures.quiet.kept.volumes c.flush.ensures.quiet.images in
    rw (← c.self.view_is) is

pub returns-clause-under_way : goal.returns-clause-under_way
returns-clause-under_way g c = rw (← c.self.view_is) (λ committed under. quiet_on g.D.Device committed c.self.inside.group c.flush.new.self c.flush.ensures.quiet under)
