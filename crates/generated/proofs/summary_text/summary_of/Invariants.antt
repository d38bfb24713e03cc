use Rattle.std.proofs.Common.{◌≡◌, ◌++◌, drop}
use Rattle.generated.specs.Contents.{volume_lines}
use Rattle.generated.proofs.summary_text.summary_of.Given as goal

-- what is written and what is still to come
abbrev pub invariant-loop-volume : goal.invariant-loop-volume
invariant-loop-volume l = l.out.bytes ++ volume_lines l.volume (drop l.volume l.digests) ≡ l.initial.out.bytes ++ volume_lines 0 l.digests
