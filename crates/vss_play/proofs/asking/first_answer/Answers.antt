use Rattle.std.proofs.Common.{rules}
use Rattle.coordinator.specs.OpenOrders.{standing_in}
use Rattle.vss_model.specs.Acts.{state}
use Rattle.vss_play.proofs.Answering.{given_here, none_next, some_next}
use Rattle.vss_play.proofs.asking.first_answer.Goals as goal

pub returns-in-Some-clause-answered : goal.returns-in-Some-clause-answered
returns-in-Some-clause-answered g c = λ acts stands. (
  c.loop-writer-test.true,
  some_next g.W.VssWriter (standing_in (state c.args.scenario.now acts).course) c.loop-writer.writer c.args.given.now c.loop-writer.given c.args.writers.now c.loop-writer.writers
      c.answer_of.new.given c.answer_of.new.writer (c.loop-writer.invariant acts stands) c.in-Some.answer
      (λ x y gx gy. given_here g.W.VssWriter c.loop-writer.writer _ _ _ _ _ x _ _ y _ _ _ gx gy (c.poll-standing.ensures acts stands) c.in-Some.is c.answer_of.ensures),
)

pub loop-writer-preserved : goal.loop-writer-preserved
loop-writer-preserved g c = λ acts stands.
    none_next g.W.VssWriter (standing_in (state c.args.scenario.now acts).course) c.loop-writer.writer c.args.given.now c.loop-writer.given c.args.writers.now c.loop-writer.writers
    c.answer_of.new.given c.answer_of.new.writer (c.loop-writer.invariant acts stands)
    (λ x y gx gy. given_here g.W.VssWriter c.loop-writer.writer _ _ _ _ _ x _ _ y _ _ _ gx gy (c.poll-standing.ensures acts stands) c.in_default.is c.answer_of.ensures)

pub returns-clause-answered : goal.returns-clause-answered
returns-clause-answered g c = λ acts stands. let h = c.loop-writer.invariant acts stands in search rules
