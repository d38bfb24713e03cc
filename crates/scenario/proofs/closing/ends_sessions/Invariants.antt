use Rattle.std.proofs.Common.{◌≡◌, drop}
use Rattle.scenario.specs.Bounds.{ends_sessions}
use Rattle.scenario.proofs.Whole.{ends_after}
use Rattle.scenario.proofs.closing.ends_sessions.Given as goal

abbrev pub invariant-loop-line : goal.invariant-loop-line
invariant-loop-line l = ends_sessions l.lines ≡ ends_after l.stands (drop l.line-index l.lines)
