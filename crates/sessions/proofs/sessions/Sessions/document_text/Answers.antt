use Rattle.std.proofs.Common.{sym, subst}
use Rattle.component_doc.specs.Over.{AreAllowed}
use Rattle.sessions.proofs.Knowing.{known_allowed}
use Rattle.sessions.proofs.sessions.Sessions.document_text.Goals as goal

pub to_json-requires-clause-allowed : goal.to_json-requires-clause-allowed
to_json-requires-clause-allowed c = subst AreAllowed (sym (c.in_ok-metas.ensures.known c.requires.standing.state c.requires.standing.at.keeps))
    (known_allowed c.args.scenario.now c.requires.standing.state 0 c.args.scenario.now.writers c.requires.plan.writers)

pub to_json-requires-2-clause-allowed : goal.to_json-requires-2-clause-allowed
to_json-requires-2-clause-allowed c = subst AreAllowed (sym (c.in_ok-metas.ensures.known c.requires.standing.state c.requires.standing.at.keeps))
    (known_allowed c.args.scenario.now c.requires.standing.state 0 c.args.scenario.now.writers c.requires.plan.writers)
