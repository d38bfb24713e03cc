use Rattle.std.proofs.Common.{◌∙◌, arith}
use Rattle.scenario.proofs.TextParts.{words_more, words_end}
use Rattle.scenario.proofs.fields.word_at.Goals as goal

pub returns-then-text-at-eq32-clause-next : goal.returns-then-text-at-eq32-clause-next
returns-then-text-at-eq32-clause-next c = c.loop-at.invariant ∙ words_end c.args.text.now c.args.start c.loop-at.at c.args.end c.loop-at-test.true c.requires.within (grind (arith, c.if-text-at-eq32.true))

pub loop-at-preserved : goal.loop-at-preserved
loop-at-preserved c = c.loop-at.invariant ∙ words_more c.args.text.now c.args.start c.loop-at.at c.args.end c.loop-at-test.true c.requires.within (grind (arith, c.if-text-at-eq32.false))
