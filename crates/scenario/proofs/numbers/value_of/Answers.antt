use Rattle.std.proofs.Common.{◌∙◌, arith}
use Rattle.std.proofs.lemmas.Grind.{common_steps}
use Rattle.scenario.proofs.TextParts.{digit_more}
use Rattle.scenario.proofs.numbers.value_of.Goals as goal

pub loop-byte-preserved : goal.loop-byte-preserved
loop-byte-preserved c =
    let more = digit_more c.args.digits.now c.args.low c.args.high c.loop-byte.value c.loop-byte.byte-index c.loop-byte-test.true (grind (arith, common_steps)) in
    (rw (c.capped-value.ensures.value, c.from.ensures) (c.loop-byte.invariant.0 ∙ more), c.capped-value.ensures.most)
