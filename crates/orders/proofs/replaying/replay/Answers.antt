use Rattle.orders.proofs.Beside.{compared_so}
use Rattle.orders.proofs.replaying.replay.Goals as goal

pub returns-in-Ok : goal.returns-in-Ok
returns-in-Ok g c = compared_so g.M.Made.Device.count _ c.args.scenario c.args.moves.now c.args.report.now _ _ _ c.compared.result c.in-Ok.ensures.ran c.compared.ensures
