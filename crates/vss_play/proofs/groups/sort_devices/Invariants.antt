use Rattle.std.proofs.Common.{length}
use Rattle.std.specs.Prelude.{map}
use Rattle.vss_play.specs.Made.{groups_of_devices, IsSorting}
use Rattle.vss_play.proofs.groups.sort_devices.Given as goal

abbrev pub invariant-loop-device : goal.invariant-loop-device
invariant-loop-device g l = IsSorting (groups_of_devices l.scenario) l.fn.devices.items l.place l.device-iterator.rest.items (length l.scenario.groups) (map (λ v. v.items) l.sorted.items)
