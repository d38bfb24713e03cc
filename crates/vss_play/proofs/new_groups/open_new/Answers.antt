use Rattle.std.proofs.Common.{◌≤◌, refl, subst, sym}
use Rattle.vss_play.proofs.NewDevices.{new_zeros}
use Rattle.vss_play.proofs.Opening.{as_many, new_groups}
use Rattle.vss_play.proofs.new_groups.open_new.Goals as goal

pub open_groups-requires-clause-sizes : goal.open_groups-requires-clause-sizes
open_groups-requires-clause-sizes g c = c.in_ok-devices.ensures.made.sizes_are

pub open_groups-requires-clause-zeros : goal.open_groups-requires-clause-zeros
open_groups-requires-clause-zeros g c =
    new_zeros g.D.Device _ _ c.in_ok-devices.ensures.made.each

pub returns-in-Ok-clause-new : goal.returns-in-Ok-clause-new
returns-in-Ok-clause-new g c = new_groups g.D.Device.told c.args.scenario.now c.in_ok-devices.devices.items c.in-Ok.groups.items c.in-Ok.ensures

pub returns-in-Ok-clause-places : goal.returns-in-Ok-clause-places
returns-in-Ok-clause-places g c =
    let many = as_many g.D.Device _ c.args.scenario.now c.in_ok-devices.devices.items _ c.in-Ok.groups.items c.lanes-facts.ensures.plan refl
    c.in_ok-devices.ensures.made c.in-Ok.ensures in
    subst (λ n. n ≤ g.M.Maker.places c.make_devices.new.maker) (sym many) c.in_ok-devices.ensures.places
