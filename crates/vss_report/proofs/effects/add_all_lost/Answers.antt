use Rattle.std.proofs.Common.{arith, Some}
use Rattle.set_agenda.specs.WriterSet.{has_bit}
use Rattle.vss_report.specs.Words.{lost_text}
use Rattle.vss_report.proofs.Telling.{one_more}
use Rattle.vss_report.proofs.effects.add_all_lost.Goals as goal

pub loop-writer-preserved : goal.loop-writer-preserved
loop-writer-preserved c = (
  one_more (lost_text c.args.scenario.now (Some c.args.order)) (has_bit c.args.lost) c.loop-writer.writer c.loop-writer.out.bytes c.add_lost_if.new.out.bytes _
      c.loop-writer-test.true c.add_lost_if.ensures.bytes c.loop-writer.invariant.0,
  omega (arith, c.add_lost_if.ensures.spare, c.loop-writer.invariant.1),
)
