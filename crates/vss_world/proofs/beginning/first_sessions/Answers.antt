use Rattle.std.proofs.Common.{arith}
use Rattle.vss_world.proofs.Registering.{all_registered}
use Rattle.vss_world.proofs.beginning.first_sessions.Goals as goal

pub returns : goal.returns
returns c =
    all_registered c.args.scenario.now c.loop-writer.writer c.new-2.result c.loop-writer.coordinator (omega (arith, c.loop-writer-test.false, c.writers-writer-end.ensures.count))
    (omega (arith, c.loop-writer.auto.writer-end, c.writers-writer-end.ensures.count))
    c.loop-writer.invariant c.new-2.ensures.keeps c.new-2.ensures.coordinator c.new-2.ensures.clock
