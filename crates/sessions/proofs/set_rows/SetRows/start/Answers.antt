use Rattle.sessions.proofs.Words.{SetRow, AreSets}
use Rattle.std.proofs.Common.{◌∙◌, List, sym, ap, subst}
use Rattle.sessions.proofs.Newest.{sets_started}
use Rattle.sessions.proofs.set_rows.SetRows.start.Goals as goal

pub invariant_of-self-2 : goal.invariant_of-self-2
invariant_of-self-2 c =
    let rows = c.self.inside.rows.items in
    let rest = rw (← c.self.view_is) at c.requires.rest in
    let number = rw (← c.self.view_is) at c.requires.number in
    subst AreSets (sym {A = List SetRow} c.in_ok-push.ensures.items) (sets_started rows c.new.result c.self.invariant rest (ap (λ (r : SetRow). r.number) c.new.ensures ∙ number))
