use Rattle.mirror_volume.specs.MirrorCalls.{NoneHolds}
use Rattle.mirror_volume.proofs.mirror.holder.Given as goal

-- none so far holds it
abbrev pub invariant-loop-place : goal.invariant-loop-place
invariant-loop-place g l = NoneHolds l.mirrors l.set l.place
