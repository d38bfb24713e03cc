use Rattle.mirror_volume.proofs.Keeping.{HaveFollowed}
use Rattle.mirror_volume.proofs.mirror.follow_all.Given as goal

-- the first mirrors followed
abbrev pub invariant-loop-mirror : goal.invariant-loop-mirror
invariant-loop-mirror g l = HaveFollowed g.D.Device l.block l.bytes l.mirror-index l.initial.mirrors l.mirrors
