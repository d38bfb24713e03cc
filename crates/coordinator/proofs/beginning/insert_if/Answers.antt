use Rattle.coordinator.proofs.Begun.{inserted}
use Rattle.coordinator.proofs.beginning.insert_if.Goals as goal

pub returns-then-really : goal.returns-then-really
returns-then-really c = inserted c.args.set.now c.insert.new.self c.args.writer c.args.really c.if-really.true c.insert.ensures
