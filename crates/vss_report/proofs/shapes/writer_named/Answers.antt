use Rattle.std.proofs.Common.{◌∙◌, length, sym, arith}
use Rattle.vss_report.specs.Words.{writer_text}
use Rattle.vss_report.proofs.ReadReplies.{next_named}
use Rattle.vss_report.proofs.shapes.writer_named.Goals as goal

pub loop-writer-preserved : goal.loop-writer-preserved
loop-writer-preserved c =
    next_named (writer_text c.args.scenario.now) c.args.name.now c.writer_name.result.now c.loop-writer.writer (length c.args.scenario.now.writers) _
    (omega (arith, c.loop-writer-test.true, c.writers-writer-end.ensures.count)) c.writer_name.ensures.text (sym c.eq.ensures ∙ c.if-eq.false) c.loop-writer.invariant
