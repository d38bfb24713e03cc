use Rattle.sessions.proofs.Words.{Held, Named, all_of, known_metas}
use Rattle.std.proofs.Common.{sym, ap, ◌∙◌, refl, true, false}
use Rattle.sessions.proofs.Lines.{then_ok}
use Rattle.sessions.proofs.Knowing.{prepares, prepares_not, takes_named, takes_known, mode_at}
use Rattle.sessions.proofs.sessions.Sessions.prepare.Goals as goal
use Rattle.sessions.proofs.CourseSteps.{owner_at}

pub returns-then-is_empty-clause-gone : goal.returns-then-is_empty-clause-gone
returns-then-is_empty-clause-gone c st at = prepares_not c.args.volumes.now (owner_at c.args.lane at.at.keeps c.requires.goes) at (sym c.is_empty.ensures ∙ c.if-is_empty.true) c.alone.ensures

pub returns-then-not-takes_all-clause-gone : goal.returns-then-not-takes_all-clause-gone
returns-then-not-takes_all-clause-gone c = then_ok c.begin_agenda.result (λ m has st found.
    let at = found.at in
    prepares c.args.self.now.selection c.args.volumes.now (Named st.explicit) (owner_at c.args.lane at.keeps c.requires.goes) found
    (sym c.is_empty.ensures ∙ c.if-is_empty.false) at.keeps.over at.keeps.explicit at.named
    (λ q is. takes_named q.mode c.args.scenario.now st
    (mode_at c.args.self.now st q c.takes_all.result false at.keeps is c.takes_all.ensures c.if-not-takes_all.true)) has) c.begin_agenda.ensures.begun

pub returns-clause-gone : goal.returns-clause-gone
returns-clause-gone c = then_ok c.begin_agenda-2.result (λ m has st found.
    let at = found.at in
    let known = c.in_ok-metas.ensures.known st at.keeps in
    prepares c.in_ok-selection.selection c.args.volumes.now (all_of (known_metas c.args.scenario.now st)) (owner_at c.args.lane at.keeps c.requires.goes) found
    (sym c.is_empty.ensures ∙ c.if-is_empty.false)
    (ap (λ (h : Held). h.writers) c.in_ok-selection.ensures ∙ c.in_ok-metas.ensures.count ∙ sym at.of.count) (ap (λ (h : Held). h.selected) c.in_ok-selection.ensures ∙ ap all_of known) refl
    (λ q is. takes_known q.mode c.args.scenario.now st
    (mode_at c.args.self.now st q c.takes_all.result true at.keeps is c.takes_all.ensures c.if-not-takes_all.false)) has) c.begin_agenda-2.ensures.begun
