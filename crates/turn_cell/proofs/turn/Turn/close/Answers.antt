use Rattle.std.proofs.Common.{rules, ◌≡◌, ◌∙◌, length, vec_len}
use lib.ListN.{length-map}
use Rattle.turn_cell.specs.Callers.{standing}
use Rattle.turn_cell.proofs.Callers.{closes_with}
use Rattle.turn_cell.proofs.turn.Turn.close.Goals as goal

pub returns : goal.returns
returns g c =
    let long : length c.args.callers.items ≡ vec_len c.args.callers = search rules in
    closes_with _ _ _ _ _ _ _ _ _ c.take-desk.result _ c.args.self.told.0
    (length-map c.args.callers.items standing ∙ (long ∙ c.requires.all)) c.gather-seat.ensures.knows c.gather-seat.ensures.idle
    c.close_with-closed.ensures.values.2 c.take-desk.ensures.value c.into_machine.ensures
