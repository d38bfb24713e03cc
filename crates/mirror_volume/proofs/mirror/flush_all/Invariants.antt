use Rattle.mirror_volume.proofs.Flushing.{HaveFlushed}
use Rattle.mirror_volume.proofs.mirror.flush_all.Given as goal

-- the first mirrors were flushed
abbrev pub invariant-loop-mirror : goal.invariant-loop-mirror
invariant-loop-mirror g l = HaveFlushed g.D.Device l.mirror-index l.initial.mirrors l.mirrors
