use Rattle.sessions.proofs.Words.{Keeps, IsAt, value_of, running_in, Sessions as Requestor, applied, SetRow}
use Rattle.std.proofs.Common.{ℕ, ◌+◌, sym, ap, ◌∙◌, List}
use Rattle.requestor.specs.declared.session_call.SessionCall.TheVariants as call
use Rattle.sessions.proofs.Lines.{at_rest, starts}
use Rattle.sessions.proofs.Newest.{none_bare}
use Rattle.sessions.proofs.sessions.Sessions.start.Goals as goal
use Rattle.sessions.proofs.CourseSteps.{owner_at}

pub returns-clause-gone : goal.returns-clause-gone
returns-clause-gone c s st found =
    let x = value_of c.self.inside in
    let at : IsAt x s st = rw (← c.self.view_is) at found in
    starts (c.sets_made-number.result + 1) c.in-Some.context (owner_at c.args.lane found.keeps c.requires.goes) at (ap (λ (n : ℕ). n + 1) c.sets_made-number.ensures)
    (sym c.in-Some.is ∙ c.context.ensures) c.alone-2.ensures
    (ap (λ (r : Requestor). record x { requestor = r; sets = c.start.new.self }) c.apply.ensures
    ∙ ap (λ (rows : List SetRow). record x { requestor = applied c.args.lane call.Start x.requestor; sets = rows }) c.in_ok-start.ensures.started)

pub start-requires-clause-rest : goal.start-requires-clause-rest
start-requires-clause-rest c =
    let st = c.requires.standing.state in
    let at = c.requires.standing.at in
    let kept : Keeps (value_of c.self.inside) st = rw (← c.self.view_is) at at.keeps in
    ap running_in kept.sets ∙ none_bare st.sets (at_rest st (owner_at c.args.lane at.keeps c.requires.goes) at.order)
