use Rattle.std.proofs.Common.{◌≡◌, take}
use Rattle.scenario.specs.Places.{blocks_in_group}
use Rattle.vss_play.proofs.groups.blocks_of_group.Given as goal

abbrev pub invariant-loop-volume : goal.invariant-loop-volume
invariant-loop-volume l = l.blocks.items ≡ blocks_in_group l.group (take l.volume l.scenario.volumes)
