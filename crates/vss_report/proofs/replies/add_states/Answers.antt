use Rattle.std.proofs.Common.{arith}
use Rattle.vss_report.proofs.ReadReplies.{more_states}
use Rattle.vss_report.proofs.replies.add_states.Goals as goal

pub loop-writer-preserved : goal.loop-writer-preserved
loop-writer-preserved c = (
  more_states c.args.scenario.now c.args.scenario.now.writers c.args.rows.now c.loop-writer.writer _ c.loop-writer.out.bytes c.add_writer_state.new.out.bytes _
      c.loop-writer-test.true c.requires.all c.add_writer_state.ensures.bytes c.loop-writer.invariant.0,
  omega (arith, c.add_writer_state.ensures.spare, c.loop-writer.invariant.1),
)
