use Rattle.sessions.proofs.Words.{Sessions as Requestor, IsAt, nothing_named_in, value_of}
use Rattle.std.proofs.Common.{sym, ◌∙◌, ap}
use Rattle.sessions.proofs.Lines.{begins, begins_not}
use Rattle.sessions.proofs.sessions.Sessions.begin.Goals as goal
use Rattle.std.specs.Prelude.{is_some, not}

pub returns-then-is_none-clause-gone : goal.returns-then-is_none-clause-gone
returns-then-is_none-clause-gone c s st at = begins_not c.requires.goes (ap is_some (sym c.context_of.ensures) ∙ c.is_none.ensures ∙ ap not c.if-is_none.true) c.alone.ensures at

pub returns-clause-gone : goal.returns-clause-gone
returns-clause-gone c s st found =
    let at : IsAt (value_of c.self.inside) s st = rw (← c.self.view_is) at found in
    begins (rw (← c.self.view_is) at c.requires.goes) (ap is_some (sym c.context_of.ensures) ∙ c.is_none.ensures ∙ ap not c.if-is_none.false) c.alone-2.ensures at
    (c.forget.ensures ∙ ap (λ (r : Requestor). nothing_named_in (record (value_of c.self.inside) { requestor = r })) c.apply.ensures)
