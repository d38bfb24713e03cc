use Rattle.sessions.proofs.Words.{metas_of, all_have_few, IsAt, value_of, takes_all_of}
use Rattle.std.proofs.Common.{ap, ◌≡◌, ◌∙◌}
use Rattle.sessions.proofs.Knowing.{known_few, names_not, names_component}
use Rattle.sessions.proofs.sessions.Sessions.component.Goals as goal
use Rattle.sessions.proofs.CourseSteps.{owner_at}

pub add-added-requires-clause-few : goal.add-added-requires-clause-few
add-added-requires-clause-few c = ap all_have_few (c.in_ok-metas.ensures.known c.requires.standing.state c.requires.standing.at.keeps)
    ∙ known_few c.args.scenario.now c.requires.standing.state 0 c.args.scenario.now.writers c.requires.plan.writers

pub returns-then-takes_all-clause-gone : goal.returns-then-takes_all-clause-gone
returns-then-takes_all-clause-gone c st at = names_not c.takes_all.result (owner_at c.args.lane at.keeps c.requires.goes) at c.takes_all.ensures c.if-takes_all.true c.alone.ensures

pub returns-clause-gone : goal.returns-clause-gone
returns-clause-gone c st found =
    let at : IsAt (value_of c.self.inside) c.args.scenario.now st = rw (← c.self.view_is) at found in
    let takes : c.takes_all.result ≡ takes_all_of c.self.inside.requestor.session = rw (← c.self.view_is) at c.takes_all.ensures in
    let added = c.add-added.ensures in
    names_component c.add-added.new.self c.in_ok-told_of_naming.field-0 c.takes_all.result c.add-added.result (metas_of c.in_ok-metas.metas) c.token-name.result.now
    (owner_at c.args.lane found.keeps c.requires.goes) at c.alone-2.ensures
    takes c.if-takes_all.false (c.in_ok-metas.ensures.known st found.keeps) c.token-name.ensures added.added added.refused added.unchanged added.writers added.named c.in_ok-told_of_naming.ensures.told
