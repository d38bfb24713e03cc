-- The lines of the volumes so far.
use Rattle.std.proofs.Common.{◌≡◌, ◌++◌}
use Rattle.vss_main.specs.Inspected.{volume_lines}
use Rattle.vss_main.proofs.lines.add_volumes.Given as goal

abbrev pub invariant-loop-volume : goal.invariant-loop-volume
invariant-loop-volume l = l.out.bytes ≡ l.initial.out.bytes ++ volume_lines l.view l.volume
