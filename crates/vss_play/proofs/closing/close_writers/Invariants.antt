use Rattle.vss_play.specs.Closing.{HasWriters, IsLonger}
use Rattle.vss_play.proofs.closing.close_writers.Given as goal

abbrev pub invariant-loop-writer : goal.invariant-loop-writer
invariant-loop-writer g l = HasWriters l.scenario l.trail.moves l.writer l.initial.out.bytes l.out.bytes × IsLonger l.initial.out.bytes l.out.bytes
