use Rattle.std.proofs.Common.{sym, ◌∙◌, refl}
use Rattle.requestor.specs.declared.session_call.SessionCall.TheVariants as call
use Rattle.coordinator.specs.Coordinator.{runs}
use Rattle.sessions.proofs.Lines.{then_ok, snapshots, snapshots_not}
use Rattle.sessions.proofs.sessions.Sessions.snapshot.Goals as goal
use Rattle.sessions.proofs.CourseSteps.{owner_at}
use Rattle.vss_model.proofs.ByEvent.{other_goes}

pub begin_agenda-requires-clause-idle : goal.begin_agenda-requires-clause-idle
begin_agenda-requires-clause-idle c = (other_goes c.args.self.now.requestor.session (runs c.args.self.now.coordinator) c.args.lane call.Snapshot c.requires.goes).quiet refl

pub returns-then-is_empty-clause-gone : goal.returns-then-is_empty-clause-gone
returns-then-is_empty-clause-gone c s st at = snapshots_not c.args.volumes.now (owner_at c.args.lane at.at.keeps c.requires.goes) at (sym c.is_empty.ensures ∙ c.if-is_empty.true) c.alone.ensures

pub returns-clause-gone : goal.returns-clause-gone
returns-clause-gone c = then_ok c.begin_agenda.result
    (λ m has s st at. snapshots c.args.self.now.selection c.args.volumes.now (owner_at c.args.lane at.at.keeps c.requires.goes) at
    (sym c.is_empty.ensures ∙ c.if-is_empty.false) has) c.begin_agenda.ensures.begun
