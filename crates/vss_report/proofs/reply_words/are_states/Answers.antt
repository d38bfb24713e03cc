use Rattle.std.proofs.Common.{arith}
use Rattle.vss_report.specs.Pieces.{pieces_at}
use Rattle.vss_report.proofs.ReadReplies.{no_state, no_such_state, one_state}
use Rattle.vss_report.proofs.reply_words.are_states.Goals as goal

pub returns-in_default : goal.returns-in_default
returns-in_default c =
    no_state c.args.scenario.now c.args.scenario.now.writers c.loop-writer.writer (pieces_at 32 c.args.line.now c.loop-writer.at) _
    (omega (arith, c.loop-writer-test.true, c.writers-writer-end.ensures.count)) c.in_default.ensures.none c.loop-writer.invariant

pub returns-then-not-is_state_of : goal.returns-then-not-is_state_of
returns-then-not-is_state_of c =
    no_such_state c.args.scenario.now c.args.scenario.now.writers c.loop-writer.writer (pieces_at 32 c.args.line.now c.loop-writer.at) c.writer_name.result.now c.in-Some.word.text.now _ _ c.is_state_of.result
    (omega (arith, c.loop-writer-test.true, c.writers-writer-end.ensures.count)) c.in-Some.ensures.some c.writer_name.ensures.text c.is_state_of.ensures c.if-not-is_state_of.true c.loop-writer.invariant

pub loop-writer-preserved : goal.loop-writer-preserved
loop-writer-preserved c =
    one_state c.args.scenario.now c.args.scenario.now.writers c.loop-writer.writer (pieces_at 32 c.args.line.now c.loop-writer.at) c.writer_name.result.now c.in-Some.word.text.now _ _ c.is_state_of.result
    (omega (arith, c.loop-writer-test.true, c.writers-writer-end.ensures.count)) c.in-Some.ensures.some c.writer_name.ensures.text c.is_state_of.ensures c.if-not-is_state_of.false c.loop-writer.invariant
