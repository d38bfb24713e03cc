use Rattle.std.proofs.Common.{◌∙◌, ◌<◌, length, ap, sym, subst}
use Rattle.std.specs.Prelude.{not}
use Rattle.vss_model.specs.Acts.{state}
use Rattle.vss_play.specs.Running.{writer_rests}
use Rattle.vss_play.proofs.Answering.{all_more, one_not}
use Rattle.vss_play.proofs.idle.writers_rest.Goals as goal

pub returns-then-writer_can_act : goal.returns-then-writer_can_act
returns-then-writer_can_act g c = λ xs stands.
    let s = c.args.scenario.now in
    sym (one_not (writer_rests s (state s xs)) (length s.writers) c.loop-writer.writer (subst (λ n. c.loop-writer.writer < n) c.writers-writer-end.ensures.count c.loop-writer-test.true)
    (ap not (sym (c.writer_can_act.ensures xs stands) ∙ c.if-writer_can_act.true)))

pub loop-writer-preserved : goal.loop-writer-preserved
loop-writer-preserved g c = λ xs stands.
    let s = c.args.scenario.now in
    all_more (writer_rests s (state s xs)) c.loop-writer.writer (c.loop-writer.invariant xs stands) (ap not (sym (c.writer_can_act.ensures xs stands) ∙ c.if-writer_can_act.false))
