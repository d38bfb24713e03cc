use Rattle.std.proofs.Common.{rules, ap, ◌∙◌}
use Rattle.turn_cell.specs.Steps.{known}
use Rattle.turn_cell.proofs.SeatSteps.{draws}
use Rattle.turn_cell.proofs.Calling.{holding, sees, idle_still, same_number}
use Rattle.turn_cell.proofs.turn.Turn.call.Goals as goal

pub fetch_add-ticket-requires : goal.fetch_add-ticket-requires
fetch_add-ticket-requires g c = (c.requires, search rules, draws _ _ _ _ _ _ (ap (λ (m : _). m.0) c.args.caller.now.idle))

pub step-answer-requires-clause-holding : goal.step-answer-requires-clause-holding
step-answer-requires-clause-holding g c =
    let t = c.fetch_add-ticket.ensures.2 in
    let takes = c.wait.ensures.takes in
    (takes.1, holding c.args.caller.now.seat.me c.fetch_add-ticket.new.seat.me c.args.caller.now.idle t.0 t.1 c.wait.new.seat.me takes)

pub invariant_of-caller : goal.invariant_of-caller
invariant_of-caller g c =
    let t = c.fetch_add-ticket.ensures.2 in
    let takes = c.wait.ensures.takes in
    let m0 = c.args.caller.now.seat.me in
    let m3 = c.step-answer.new.seat.me in
    let m4 = c.serve-front.new.seat.me in
    let seen = ap (λ (v : _). known v) c.step-answer.ensures.same.2 ∙ sees m0 c.fetch_add-ticket.new.seat.me c.args.caller.now.idle t.0 t.1 c.wait.new.seat.me takes in
    let after = c.serve-front.ensures.entry _ c.step-answer.ensures.carries in
    record { idle = idle_still m0 m3 m4 takes.0 _ seen after.0; named = same_number m0 m3 m4 takes.0 _ seen after.0 ∙ c.args.caller.now.named }
