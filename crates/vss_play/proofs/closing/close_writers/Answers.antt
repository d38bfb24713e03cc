use Rattle.vss_play.proofs.ClosingLines.{no_writer, one_writer, longer_same, longer_trans}
use Rattle.vss_play.proofs.closing.close_writers.Goals as goal

pub loop-writer-init : goal.loop-writer-init
loop-writer-init g c = (no_writer c.args.scenario.now c.args.trail.now.moves c.args.out.now.bytes, longer_same c.args.out.now.bytes)

pub loop-writer-preserved : goal.loop-writer-preserved
loop-writer-preserved g c = (
  one_writer c.args.scenario.now c.args.trail.now.moves c.loop-writer.writer c.args.out.now.bytes c.loop-writer.out.bytes c.close_writer.new.out.bytes
      c.loop-writer.invariant.0 c.in_ok-close_writer.ensures.writer,
  longer_trans c.args.out.now.bytes c.loop-writer.out.bytes c.close_writer.new.out.bytes c.loop-writer.invariant.1 c.in_ok-close_writer.ensures.longer,
)

pub returns-in_err-close_writer-clause-longer : goal.returns-in_err-close_writer-clause-longer
returns-in_err-close_writer-clause-longer g c = longer_trans c.args.out.now.bytes c.loop-writer.out.bytes c.close_writer.new.out.bytes c.loop-writer.invariant.1 c.close_writer.ensures.longer
