use Rattle.vss_report.proofs.Telling.{none_lost}
use Rattle.set_agenda.specs.WriterSet.{writers_of}
use Rattle.vss_report.proofs.effects.add_losses.Goals as goal

pub returns-in-None-clause-bytes : goal.returns-in-None-clause-bytes
returns-in-None-clause-bytes c = none_lost c.args.scenario.now c.args.order (writers_of c.args.lost) c.args.out.now.bytes c.in-None.is
