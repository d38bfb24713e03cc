use Rattle.std.proofs.Common.{sym, subst, ◌<◌}
use Rattle.vss_world.proofs.Following.{at_of, standing_of, session_waits, answer_moves}
use Rattle.vss_world.proofs.world.World.answer.Goals as goal

pub answer-requires-clause-standing : goal.answer-requires-clause-standing
answer-requires-clause-standing g c = standing_of (rw (← c.self.view_is) at c.requires.of) (rw (← c.self.view_is) at c.requires.standing)

pub answer-requires-clause-known : goal.answer-requires-clause-known
answer-requires-clause-known g c = subst (λ n. c.args.writer < n) (sym (rw (← c.self.view_is) at c.requires.of).writers.count) c.requires.in_range

pub returns-in-Waits : goal.returns-in-Waits
returns-in-Waits g c = rw (← c.self.view_is) (session_waits (rw c.in-Waits.is at c.answer.ensures.called c.args.scenario.now) (at_of (rw (← c.self.view_is) at c.requires.of)))

pub returns-in-Moves : goal.returns-in-Moves
returns-in-Moves g c =
    rw (← c.self.view_is) (answer_moves g.D.Device c.args.scenario.now (rw (← c.self.view_is) at c.requires.of) (rw (← c.self.view_is) at c.requires.standing) c.clear.ensures c.settle.ensures
    c.args.writer c.args.answer (rw c.in-Moves.is at c.answer.ensures.called c.args.scenario.now) c.answer.ensures.leaves)
