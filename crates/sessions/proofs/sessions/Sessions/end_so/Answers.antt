use Rattle.sessions.proofs.Words.{Session, Sessions as Requestor}
use Rattle.std.proofs.Common.{ap, ◌∙◌}
use Rattle.std.specs.Prelude.{option_map}
use Rattle.sessions.proofs.Lines.{owner_kept}
use Rattle.sessions.proofs.sessions.Sessions.end_so.Goals as goal

pub returns-clause-owner : goal.returns-clause-owner
returns-clause-owner c = rw (← c.self.view_is)
    (ap (λ (r : Requestor). option_map (λ (q : Session). q.owner) r.session) c.agenda_ended.ensures ∙ owner_kept c.args.outcome c.self.inside.requestor.session)
