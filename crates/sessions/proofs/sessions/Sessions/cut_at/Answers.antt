use Rattle.sessions.proofs.Words.{SetRow, Keeps, value_of}
use Rattle.std.proofs.Common.{◌≡◌, sym, ◌∙◌, subst, List, Some}
use Rattle.vss_model.specs.Changes.{after_changes, made_at}
use Rattle.sessions.proofs.CourseSteps.{is_cut_now}
use Rattle.sessions.proofs.sessions.Sessions.cut_at.Goals as goal

pub returns-clause-cut : goal.returns-clause-cut
returns-clause-cut c st v order kept0 =
    let x = value_of c.self.inside in
    let kept : Keeps x st = rw (← c.self.view_is) at kept0 in
    let now : c.args.now ≡ c.self.inside.clock = rw (← c.self.view_is) at c.requires in
    subst (λ (rows : List SetRow). Keeps (record x { sets = rows }) (after_changes st (made_at (Some c.args.group) v st))) (sym c.cut.ensures)
    (is_cut_now x st c.args.group v c.args.now (sym c.is_cut.ensures ∙ c.if-not-is_cut.false) now order kept)
