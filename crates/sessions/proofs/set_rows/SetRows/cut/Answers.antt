use Rattle.sessions.proofs.Words.{slice_get_read, with_cut, AreSets}
use Rattle.std.proofs.Common.{◌≡◌, ◌-◌, suc, length, slice_set, sym, ap, subst, ◌∙◌, refl, arith}
use Rattle.sessions.proofs.Newest.{changed_last, sets_changed}
use Rattle.sessions.proofs.set_rows.SetRows.cut.Goals as goal

pub invariant_of-self : goal.invariant_of-self
invariant_of-self c =
    let rows = c.self.inside.rows.items in
    let long : length rows ≡ suc (c.len-count.result - 1) = omega (arith, c.len-count.ensures, c.if-count-gt0.true) in
    let at = slice_get_read rows (length rows) (c.len-count.result - 1) c.index_mut-newest.result.now refl (omega (arith, long)) c.index_mut-newest.ensures.value in
    subst AreSets (changed_last (with_cut c.args.now) rows (c.len-count.result - 1) c.index_mut-newest.result.now c.self.invariant.newest at long
    ∙ sym (ap (slice_set rows (c.len-count.result - 1)) c.cut.ensures)) (sets_changed (with_cut c.args.now) rows (λ r. refl) (λ r. refl) c.self.invariant)

pub returns-then-count-gt0 : goal.returns-then-count-gt0
returns-then-count-gt0 c =
    let rows = c.self.inside.rows.items in
    let long : length rows ≡ suc (c.len-count.result - 1) = omega (arith, c.len-count.ensures, c.if-count-gt0.true) in
    let at = slice_get_read rows (length rows) (c.len-count.result - 1) c.index_mut-newest.result.now refl (omega (arith, long)) c.index_mut-newest.ensures.value in
    rw (← c.self.view_is)
    (ap (slice_set rows (c.len-count.result - 1)) c.cut.ensures ∙ sym (changed_last (with_cut c.args.now) rows (c.len-count.result - 1) c.index_mut-newest.result.now c.self.invariant.newest at long))
