use Rattle.std.proofs.Common.{refl}
use Rattle.std.proofs.lemmas.Result.{IfOk-weaker}
use Rattle.image_store.proofs.Stores.{store_of, named_still, still}
use Rattle.image_store.proofs.store.Store.length.Goals as goal

pub invariant_of-self : goal.invariant_of-self
invariant_of-self g c = named_still c.self.inside.group c.length_of.new.group c.self.inside.names.items (c.length_of.ensures.kept.volumes) c.self.invariant

pub returns-clause-still : goal.returns-clause-still
returns-clause-still g c =
    let is = still g.D.Device.told (store_of c.self.inside.group c.self.inside.names.items c.self.inside.last)
    (store_of c.length_of.new.group c.self.inside.names.items c.self.inside.last) c.length_of.ensures.kept refl in
    rw (← c.self.view_is) is

pub returns-clause-length : goal.returns-clause-length
returns-clause-length g c = rw (← c.self.view_is) (IfOk-weaker c.length_of.result _ _ (λ n h p stands. h p.volumes stands.group) c.length_of.ensures.length)
