use Rattle.std.proofs.Common.{◌∷◌, refl, ap, sym, ◌∙◌}
use Rattle.atomic_table.specs.Table.{rest}
use Rattle.turn_cell.proofs.Calling.{carries}
use Rattle.turn_cell.proofs.turn.Turn.step.Goals as goal

pub slot_mut-desk-requires : goal.slot_mut-desk-requires
slot_mut-desk-requires g c =
    let h = c.requires.holding in
    let carried = ap (λ (m : _). m.1) h.1 in
    (c.requires.turn, (h.0, carried ∙ ap (λ (l : _). (0, h.0) ∷ rest l) (sym carried)))

pub returns-clause-carries : goal.returns-clause-carries
returns-clause-carries g c =
    let h = c.requires.holding in
    let n = c.step.ensures.noted in
    carries _ _ _ h.0 c.slot_mut-desk.result.now c.step.new.self n.0 _ h.1 c.slot_mut-desk.ensures.value refl n.2 n.3 c.requires.number n.1 c.step.ensures.makes
