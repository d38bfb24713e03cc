use Rattle.sessions.proofs.Words.{SetRow, Keeps, value_of, is_complete_in}
use Rattle.std.proofs.Common.{List, ap, ◌∙◌}
use Rattle.sessions.proofs.Newest.{complete_bare}
use Rattle.sessions.proofs.sessions.Sessions.is_complete.Goals as goal

pub returns : goal.returns
returns c st kept0 =
    let x = value_of c.self.inside in
    let kept : Keeps x st = rw (← c.self.view_is) at kept0 in
    c.is_complete.ensures ∙ ap (λ (rows : List SetRow). is_complete_in rows c.args.set) kept.sets ∙ complete_bare st.sets c.args.set
