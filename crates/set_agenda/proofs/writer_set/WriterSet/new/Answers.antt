use Rattle.set_agenda.proofs.WriterSets.{new-is}
use Rattle.set_agenda.proofs.writer_set.WriterSet.new.Goals as goal

pub returns : goal.returns
returns c = new-is
