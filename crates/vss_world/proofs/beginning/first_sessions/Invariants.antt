use Rattle.vss_world.specs.Quiet.{HasRegistered}
use Rattle.vss_world.proofs.beginning.first_sessions.Given as goal

-- the writers so far are registered
abbrev pub invariant-loop-writer : goal.invariant-loop-writer
invariant-loop-writer l = HasRegistered l.scenario l.writer l.coordinator
