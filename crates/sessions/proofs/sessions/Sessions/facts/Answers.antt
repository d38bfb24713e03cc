use Rattle.sessions.proofs.Words.{SetRow, Keeps, value_of, facts_of}
use Rattle.std.proofs.Common.{List, ◌==◌, ap, ◌∙◌}
use Rattle.std.specs.Prelude.{find, option_map}
use Rattle.sessions.proofs.Newest.{facts_bare}
use Rattle.sessions.proofs.sessions.Sessions.facts.Goals as goal

pub returns : goal.returns
returns c st kept0 =
    let x = value_of c.self.inside in
    let kept : Keeps x st = rw (← c.self.view_is) at kept0 in
    c.facts.ensures ∙ ap (λ (rows : List SetRow). option_map facts_of (find (λ (r : SetRow). r.number == c.args.set) rows)) kept.sets ∙ facts_bare c.args.set st.sets
