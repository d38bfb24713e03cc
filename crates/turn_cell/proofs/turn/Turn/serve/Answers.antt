use Rattle.std.proofs.Common.{rules, ◌+◌, ◌%◌, ◌^◌, ℕ, ap, ◌∙◌}
use Rattle.turn_cell.specs.Rule.{is_out}
use Rattle.turn_cell.proofs.SeatSteps.{serves_carried}
use Rattle.turn_cell.proofs.Lists.{next_word}
use Rattle.turn_cell.proofs.turn.Turn.serve.Goals as goal

pub fetch_add-served-requires : goal.fetch_add-served-requires
fetch_add-served-requires g c = (c.requires.turn, search rules, serves_carried _ _ _ _ _ _ c.requires.carries.0 c.requires.carries.1)

pub ring-requires-clause-idle : goal.ring-requires-clause-idle
ring-requires-clause-idle g c =
    let k = c.requires.carries.1 in
    let told = c.fetch_add-served.ensures.2 k.desk k.note (ap (λ (m : _). m.1) k.holds) k.is_noted in
    ap (λ (m : _). is_out m.0) told.0

pub returns-clause-front : goal.returns-clause-front
returns-clause-front g c =
    let k = c.requires.carries.1 in
    let told = c.fetch_add-served.ensures.2 k.desk k.note (ap (λ (m : _). m.1) k.holds) k.is_noted in
    ap (λ (n : ℕ). (n + 1) % 2 ^ 64) told.2 ∙ next_word _
