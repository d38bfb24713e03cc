use Rattle.sessions.proofs.Words.{slice_get_past, slice_get_read, SetRow, facts_of}
use Rattle.std.proofs.Common.{◌<◌, ◌≤◌, ℕ, ◌-◌, ◌==◌, length, sym, ap, ◌∙◌, refl, arith, Some}
use Rattle.std.specs.Prelude.{find, option_map}
use Rattle.sessions.proofs.Newest.{found_at, none_at_zero}
use Rattle.sessions.proofs.set_rows.SetRows.facts.Goals as goal

pub returns-then-set-eq0 : goal.returns-then-set-eq0
returns-then-set-eq0 c =
    let rows = c.self.inside.rows.items in
    rw (← c.self.view_is)
    (sym (ap (λ (n : ℕ). option_map facts_of (find (λ (r : SetRow). r.number == n) rows)) c.if-set-eq0.true ∙ ap (option_map facts_of) (none_at_zero 1 rows c.self.invariant.numbered (omega arith))))

pub returns-then-at-count : goal.returns-then-at-count
returns-then-at-count c =
    let rows = c.self.inside.rows.items in
    let past : length rows ≤ c.args.set - 1 = omega (arith, c.len-count.ensures, c.if-at-count.true) in
    rw (← c.self.view_is)
    (sym (ap (option_map facts_of) (found_at 1 rows (c.args.set - 1) c.args.set c.self.invariant.numbered (omega (arith, c.if-set-eq0.false)) ∙ slice_get_past rows (c.args.set - 1) past)))

pub returns : goal.returns
returns c =
    let rows = c.self.inside.rows.items in
    let within : c.args.set - 1 < length rows = omega (arith, c.len-count.ensures, c.if-at-count.false) in
    let at = slice_get_read rows (length rows) (c.args.set - 1) c.index-row.result.now refl within c.index-row.ensures in
    rw (← c.self.view_is) (ap Some c.facts.ensures ∙ sym (ap (option_map facts_of) (found_at 1 rows (c.args.set - 1) c.args.set c.self.invariant.numbered (omega (arith, c.if-set-eq0.false)) ∙ at)))
