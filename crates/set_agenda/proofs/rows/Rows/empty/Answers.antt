use Rattle.set_agenda.proofs.Closings.{rows-empty}
use Rattle.set_agenda.proofs.rows.Rows.empty.Goals as goal

pub returns : goal.returns
returns c = rows-empty _ c.new.ensures c.new-2.ensures c.new-3.ensures c.new-4.ensures c.new-5.ensures
