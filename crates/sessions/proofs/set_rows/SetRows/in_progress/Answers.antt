use Rattle.std.proofs.Common.{◌≡◌, ◌-◌, suc, length, sym, ◌∙◌, refl, arith, true, false}
use Rattle.std.proofs.lemmas.Option.{slice_get_read}
use Rattle.sessions.proofs.Newest.{running_last, running_is}
use Rattle.sessions.proofs.set_rows.SetRows.in_progress.Goals as goal

pub returns-then-is_running : goal.returns-then-is_running
returns-then-is_running c =
    let rows = c.self.inside.rows.items in
    let long : length rows ≡ suc (c.len-count.result - 1) = omega (arith, c.len-count.ensures, c.if-count-eq0.false) in
    let at = slice_get_read rows (length rows) (c.len-count.result - 1) c.index-newest.result.now refl (omega (arith, long)) c.index-newest.ensures in
    rw (← c.self.view_is)
    (sym (running_last rows (c.len-count.result - 1) c.index-newest.result.now c.self.invariant.newest at long
    ∙ running_is true c.index-newest.result.now (sym c.is_running.ensures ∙ c.if-is_running.true)))

pub returns-else-is_running : goal.returns-else-is_running
returns-else-is_running c =
    let rows = c.self.inside.rows.items in
    let long : length rows ≡ suc (c.len-count.result - 1) = omega (arith, c.len-count.ensures, c.if-count-eq0.false) in
    let at = slice_get_read rows (length rows) (c.len-count.result - 1) c.index-newest.result.now refl (omega (arith, long)) c.index-newest.ensures in
    rw (← c.self.view_is)
    (sym (running_last rows (c.len-count.result - 1) c.index-newest.result.now c.self.invariant.newest at long
    ∙ running_is false c.index-newest.result.now (sym c.is_running.ensures ∙ c.if-is_running.false)))
