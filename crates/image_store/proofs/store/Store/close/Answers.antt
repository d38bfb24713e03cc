use Rattle.std.proofs.Common.{◌≡◌, ◌∙◌, ap, length, map}
use Rattle.diff_area.specs.AreaValue.{AreaValue}
use Rattle.image_store.proofs.Keeping.{closed_failed, closed_outcome, closed_still, closed_told}
use Rattle.image_store.proofs.Stores.{synced}
use Rattle.image_store.proofs.store.Store.close.Goals as goal

pub returns : goal.returns
returns g c =
    let devices = c.into_parts-devices.result.0 in
    let many : length devices.items ≡ devices.len = search in
    let same : c.deref_mut.result.now ≡ devices.items = search in
    let area = c.into_device-area.ensures ∙ ap (λ (a : AreaValue _). a.device) c.into_parts-devices.ensures.area in
    let synced = c.in-Ok.ensures.sync in
    let told = closed_told g.D.Device.told c.self.inside.group c.sync-synced.new.self devices.items c.deref_mut.result.now c.flush_each-outcome.new.devices devices.len synced.0.devices
    c.into_parts-devices.ensures.devices many same c.flush_each-outcome.ensures.told in
    record {
      told = rw (← c.self.view_is) told;
      still = rw (← c.self.view_is)
          (closed_still g.D.Device c.self.inside.group c.sync-synced.new.self c.self.inside.names.items c.self.inside.last
          _ c.into_device-area.result synced.0 told area);
      failed = rw (← c.self.view_is) (closed_failed g.D.Device c.self.inside.group c.sync-synced.new.self devices.items c.deref_mut.result.now c.flush_each-outcome.new.devices
          devices.len c.into_device-area.result c.flush_each-outcome.result synced.0.devices synced.2.area c.into_parts-devices.ensures.devices many same area
          c.flush_each-outcome.ensures.told c.flush_each-outcome.ensures.volume c.flush_each-outcome.ensures.rose);
      kept = rw (← c.self.view_is) (closed_outcome g.D.Device c.self.inside.group c.sync-synced.new.self
          c.self.inside.names.items c.self.inside.last devices.items c.deref_mut.result.now c.flush_each-outcome.new.devices devices.len c.into_device-area.result c.in-Ok.field-0
          c.flush_each-outcome.result synced c.in-Ok.ensures.lasts c.into_parts-devices.ensures.devices many same area c.flush_each-outcome.ensures.lasts c.flush_each-outcome.ensures.told);
    }

pub returns-in_default-clause-still : goal.returns-in_default-clause-still
returns-in_default-clause-still g c =
    let sync = synced g.D.Device c.self.inside.group c.sync-synced.new.self c.sync-synced.result c.sync-synced.ensures.sync in
    rw (← c.self.view_is) (closed_still g.D.Device c.self.inside.group c.sync-synced.new.self c.self.inside.names.items c.self.inside.last
    c.into_parts-devices.result.0.items c.into_device-area.result sync (ap (map g.D.Device.told) (c.into_parts-devices.ensures.devices ∙ sync.devices))
    (c.into_device-area.ensures ∙ ap (λ (a : AreaValue _). a.device) c.into_parts-devices.ensures.area))
