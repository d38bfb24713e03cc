use Rattle.std.proofs.Common.{refl}
use Rattle.image_store.proofs.Plains.{synced_kept}
use Rattle.image_store.proofs.Stores.{store_of, named_still, still, synced, head_still}
use Rattle.image_store.proofs.UnderWay.{synced_committed, synced_on}
use Rattle.image_store.proofs.store.Store.sync.Goals as goal

pub invariant_of-self : goal.invariant_of-self
invariant_of-self g c = named_still c.self.inside.group c.sync-done.new.self c.self.inside.names.items
    ((synced g.D.Device c.self.inside.group c.sync-done.new.self c.sync-done.result c.sync-done.ensures.sync).kept.volumes) c.self.invariant

pub returns-clause-still : goal.returns-clause-still
returns-clause-still g c =
    let is = still g.D.Device.told (store_of c.self.inside.group c.self.inside.names.items c.self.inside.last) (store_of c.sync-done.new.self c.self.inside.names.items c.self.inside.last)
    (synced_kept g.D.Device c.self.inside.group c.sync-done.new.self
    (synced g.D.Device c.self.inside.group c.sync-done.new.self c.sync-done.result c.sync-done.ensures.sync)) refl in
    rw (← c.self.view_is) is

pub returns-clause-head : goal.returns-clause-head
returns-clause-head g c =
    let kept = synced g.D.Device c.self.inside.group c.sync-done.new.self c.sync-done.result c.sync-done.ensures.sync in
    let is = head_still c.self.inside.group c.sync-done.new.self c.self.inside.names.items c.self.inside.last kept.kept.volumes kept.images in
    rw (← c.self.view_is) is

pub returns-clause-committed : goal.returns-clause-committed
returns-clause-committed g c =
    let is = synced_committed g.D.Device c.self.inside.group c.sync-done.new.self c.self.inside.names.items c.self.inside.last _ c.sync-done.result c.sync-done.ensures.sync c.sync-done.ensures.table
    c.volumes-facts-2.ensures.records c.volumes-facts-2.ensures.whole in
    rw (← c.self.view_is) is

pub returns-clause-under_way : goal.returns-clause-under_way
returns-clause-under_way g c =
    let kept = synced g.D.Device c.self.inside.group c.sync-done.new.self c.sync-done.result c.sync-done.ensures.sync in
    rw (← c.self.view_is) (λ committed under. synced_on g.D.Device.told committed c.self.inside.group c.sync-done.new.self _ c.sync-done.result c.sync-done.ensures.table kept.devices kept.records
    c.volumes-facts.ensures.whole c.volumes-facts.ensures.slots under)

pub returns-clause-table : goal.returns-clause-table
returns-clause-table g c = rw (← c.self.view_is) c.sync-done.ensures.table
