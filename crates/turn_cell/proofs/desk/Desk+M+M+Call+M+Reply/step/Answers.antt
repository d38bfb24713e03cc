use Rattle.std.proofs.Common.{refl}
use Rattle.turn_cell.proofs.desk.Desk+M+M+Call+M+Reply.step.Goals as goal

pub returns-clause-noted : goal.returns-clause-noted
returns-clause-noted g c = (record { call = c.of-asked.result; answer = c.of.result }, refl, c.of-asked.ensures, c.of.ensures)
