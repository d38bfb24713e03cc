use Rattle.std.proofs.Common.{◌∙◌, arith, refl, sym}
use Rattle.vss_tools.specs.Refused.{refusal_from}
use Rattle.vss_tools.proofs.TextLines.{bad_at, good_on, good_to_the_end, texts}
use Rattle.vss_tools.proofs.timeline.picture.take_lines.Goals as goal

pub loop-at-init : goal.loop-at-init
loop-at-init c = record {
  refused = refl;
  few = omega arith;
}

pub loop-at-preserved : goal.loop-at-preserved
loop-at-preserved c = record {
  refused = good_on c.args.script.now c.args.lines.now c.loop-at.at (refusal_from c.args.script.now 1 (texts c.args.lines.now)) c.loop-at-test.true (sym c.fault_of.ensures ∙ c.in-None.is)
      c.loop-at.invariant.refused;
  few = omega (arith, c.loop-at.invariant.few, c.moves_after-moves.ensures);
}

pub returns-in-Some-clause-refused : goal.returns-in-Some-clause-refused
returns-in-Some-clause-refused c =
    bad_at c.args.script.now c.args.lines.now c.loop-at.at c.in-Some.fault (refusal_from c.args.script.now 1 (texts c.args.lines.now)) c.loop-at-test.true (sym c.fault_of.ensures ∙ c.in-Some.is)
    c.loop-at.invariant.refused

pub returns-clause-good : goal.returns-clause-good
returns-clause-good c =
    good_to_the_end c.args.script.now c.args.lines.now c.loop-at.at (refusal_from c.args.script.now 1 (texts c.args.lines.now)) (omega arith) c.loop-at.invariant.refused
