use Rattle.std.proofs.Common.{take}
use Rattle.diff_map.proofs.GroupBegun.{AreBegun}
use Rattle.diff_map.proofs.group_map.GroupMap.new.Given as goal

abbrev pub invariant-loop-count : goal.invariant-loop-count
invariant-loop-count l = AreBegun l.base l.slots (take l.count-index l.blocks) l.volumes.items
