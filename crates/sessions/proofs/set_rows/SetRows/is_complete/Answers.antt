use Rattle.std.proofs.Common.{◌∙◌, sym, ap}
use Rattle.sessions.proofs.Newest.{complete_by_facts, is_complete_told}
use Rattle.sessions.proofs.set_rows.SetRows.is_complete.Goals as goal

pub returns-in-None : goal.returns-in-None
returns-in-None c = let rows = c.self.inside.rows.items in rw (← c.self.view_is)
    (sym (complete_by_facts rows c.args.set c.facts.result c.self.invariant (rw (← c.self.view_is) at c.facts.ensures) ∙ ap is_complete_told c.in-None.is))

pub returns-in-Some : goal.returns-in-Some
returns-in-Some c = let rows = c.self.inside.rows.items in rw (← c.self.view_is)
    (sym (complete_by_facts rows c.args.set c.facts.result c.self.invariant (rw (← c.self.view_is) at c.facts.ensures) ∙ ap is_complete_told c.in-Some.is))
