use Rattle.sessions.proofs.Words.{slice_get_read, AreSets, SetRow}
use Rattle.std.proofs.Common.{◌≡◌, ◌-◌, suc, length, slice_set, sym, ap, subst, ◌∙◌, refl, arith}
use Rattle.sessions.proofs.Newest.{changed_last, sets_settled}
use Rattle.sessions.proofs.set_rows.SetRows.settle.Goals as goal

pub invariant_of-self : goal.invariant_of-self
invariant_of-self c =
    let rows = c.self.inside.rows.items in
    let long : length rows ≡ suc (c.len-count.result - 1) = omega (arith, c.len-count.ensures, c.if-count-gt0.true) in
    let at = slice_get_read rows (length rows) (c.len-count.result - 1) c.index_mut-newest.result.now refl (omega (arith, long)) c.index_mut-newest.ensures.value in
    subst AreSets (changed_last (λ (r : SetRow). record r { result = c.args.outcome }) rows (c.len-count.result - 1) c.index_mut-newest.result.now c.self.invariant.newest at long
    ∙ sym (ap (slice_set rows (c.len-count.result - 1)) c.settle.ensures)) (sets_settled c.args.outcome rows c.self.invariant)

pub returns-then-count-gt0 : goal.returns-then-count-gt0
returns-then-count-gt0 c =
    let rows = c.self.inside.rows.items in
    let long : length rows ≡ suc (c.len-count.result - 1) = omega (arith, c.len-count.ensures, c.if-count-gt0.true) in
    let at = slice_get_read rows (length rows) (c.len-count.result - 1) c.index_mut-newest.result.now refl (omega (arith, long)) c.index_mut-newest.ensures.value in
    rw (← c.self.view_is)
    (ap (slice_set rows (c.len-count.result - 1)) c.settle.ensures
    ∙ sym (changed_last (λ (r : SetRow). record r { result = c.args.outcome }) rows (c.len-count.result - 1) c.index_mut-newest.result.now c.self.invariant.newest at long))
