use Rattle.std.proofs.Common.{◌≡◌, ◌∷◌, [], ◌++◌, ap, sym, ◌∙◌, subst}
use Rattle.std.specs.List.{All}
use Rattle.std.specs.Option.{option_to_list}
use Rattle.turn_cell.specs.Rule.{tickets, is_out, knowns}
use Rattle.turn_cell.specs.Steps.{known}
use Rattle.turn_cell.specs.Callers.{standing}
use Rattle.turn_cell.proofs.Lists.{all_front, all_last}
use Rattle.turn_cell.proofs.Callers.{takes_one, speaks_for, speaks_first}
use Rattle.turn_cell.proofs.seating.gather.Goals as goal

pub loop-caller-init : goal.loop-caller-init
loop-caller-init g c =
    let first = c.unwrap.result in
    let rest = c.pop.new.self.items in
    let cut = c.pop.ensures.items ∙ ap (λ (o : _). rest ++ option_to_list o) c.unwrap.ensures in
    let own = subst (All (λ (k : _). k.seat.table_id ≡ c.args.table.now.shared.table_id)) cut c.requires.table.0 in
    let is = ap (λ (s : _). s.me.0) c.into_seat-seat.ensures ∙ ap (λ (m : _). m.0) first.idle in (
      ap (λ (s : _). s.table_id) c.into_seat-seat.ensures ∙ all_last (λ (k : _). k.seat.table_id ≡ c.args.table.now.shared.table_id) rest first own,
      ap tickets is,
      ap is_out is,
      speaks_first standing c.args.callers.items rest first c.into_seat-seat.result.me.0 cut is,
      all_front (λ (k : _). k.seat.table_id ≡ c.args.table.now.shared.table_id) rest (first ∷ []) own,
    )

pub join_seat-requires : goal.join_seat-requires
join_seat-requires g c =
    let next = c.in-Some.caller in
    let rest = c.pop-in-loop-caller.new.self.items in
    let cut = c.in-Some.ensures.items in
    let own = subst (All (λ (k : _). k.seat.table_id ≡ c.args.table.now.shared.table_id)) cut c.loop-caller.invariant.4 in
    let same = c.into_seat.ensures in (
      c.loop-caller.invariant.0,
      ap (λ (s : _). s.table_id) same ∙ all_last (λ (k : _). k.seat.table_id ≡ c.args.table.now.shared.table_id) rest next own,
      ap (λ (s : _). s.me.1) same ∙ ap (λ (m : _). m.1) next.idle,
      c.requires.table.1,
      takes_one _ _ _ _ _ _ _ c.loop-caller.invariant.1 c.loop-caller.invariant.2
          (subst (λ (s : _). s.me.0 ≡ Rattle.turn_cell.specs.declared.view.View.TheVariants.Idle (known s.me.0)) (sym same) (ap (λ (m : _). m.0) next.idle)),
    )

pub loop-caller-preserved : goal.loop-caller-preserved
loop-caller-preserved g c =
    let next = c.in-Some.caller in
    let rest = c.pop-in-loop-caller.new.self.items in
    let cut = c.in-Some.ensures.items in
    let own = subst (All (λ (k : _). k.seat.table_id ≡ c.args.table.now.shared.table_id)) cut c.loop-caller.invariant.4 in
    let is = ap (λ (s : _). s.me.0) c.into_seat.ensures ∙ ap (λ (m : _). m.0) next.idle in
    let now = ap (λ (m : _). m.0) c.join_seat.ensures.2 in (
      c.join_seat.ensures.0 ∙ c.loop-caller.invariant.0,
      ap tickets now,
      ap is_out now,
      ap (λ (v : _). Rattle.std.proofs.Common.map standing rest ++ knowns v) now
          ∙ speaks_for standing c.loop-caller.callers.items rest next c.loop-caller.seat.me.0 c.into_seat.result.me.0 _ cut is c.loop-caller.invariant.3,
      all_front (λ (k : _). k.seat.table_id ≡ c.args.table.now.shared.table_id) rest (next ∷ []) own,
    )
