use Rattle.std.proofs.Common.{rules, ◌∙◌}
use Rattle.turn_cell.proofs.SeatSteps.{awaits}
use Rattle.turn_cell.proofs.Calling.{waits_still, takes_still}
use Rattle.turn_cell.proofs.turn.Turn.wait.Goals as goal

pub load-serving-requires : goal.load-serving-requires
load-serving-requires g c = (c.loop.invariant.0 ∙ c.requires.turn, search rules, awaits _ _ _ _ _ _ (waits_still _ _ c.loop.invariant.2 c.requires.waiting))

pub returns-then-serving-ticket-clause-takes : goal.returns-then-serving-ticket-clause-takes
returns-then-serving-ticket-clause-takes g c =
    takes_still c.loop.seat.me c.args.seat.now.me c.load-serving.new.seat.me c.load-serving.result c.loop.invariant.2 c.load-serving.ensures.2.0 (c.if-serving-ticket.true ∙ c.requires.ticket)
