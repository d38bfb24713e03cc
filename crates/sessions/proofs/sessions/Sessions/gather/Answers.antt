use Rattle.std.proofs.Common.{refl}
use Rattle.requestor.specs.declared.session_call.SessionCall.TheVariants as call
use Rattle.coordinator.specs.Coordinator.{runs}
use Rattle.sessions.proofs.Lines.{then_ok, gathers}
use Rattle.sessions.proofs.sessions.Sessions.gather.Goals as goal
use Rattle.sessions.proofs.CourseSteps.{owner_at}
use Rattle.vss_model.proofs.ByEvent.{other_goes}

pub begin_agenda-requires-clause-idle : goal.begin_agenda-requires-clause-idle
begin_agenda-requires-clause-idle c = (other_goes c.args.self.now.requestor.session (runs c.args.self.now.coordinator) c.args.lane call.Gather c.requires.goes).quiet refl

pub returns-clause-gone : goal.returns-clause-gone
returns-clause-gone c = then_ok c.begin_agenda.result (λ m has s st at. gathers c.args.self.now.selection (owner_at c.args.lane at.keeps c.requires.goes) at has) c.begin_agenda.ensures.begun
