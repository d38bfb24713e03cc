use Rattle.std.proofs.Common.{◌≡◌, ◌+◌, ◌∙◌, refl, ap, arith}
use Rattle.std.proofs.lemmas.Option.{slice_get-get_or}
use Rattle.scenario.specs.Places.{place_in}
use Rattle.scenario.proofs.Places.{counted_is, counted_one, passed_one}
use Rattle.scenario.proofs.place.place_of.Goals.{then-rows-other, else-rows-other}
use Rattle.scenario.proofs.place.place_of.Goals as goal

pub loop-other-preserved : goal.loop-other-preserved
loop-other-preserved c =
    let at = slice_get-get_or c.args.rows.now c.loop-other.other _ (omega (arith, c.loop-other-test.true, c.requires.volume)) in
    elim c.if-rows-other.branch [
      | then-rows-other w ↦ counted_is _ c.args.rows.now (c.loop-other.other + 1) _ _ w.volume-is
          (counted_one _ c.args.rows.now c.loop-other.other c.loop-other.volume _ at w.if-rows-other.true c.loop-other.invariant)
      | else-rows-other w ↦ counted_is _ c.args.rows.now (c.loop-other.other + 1) _ _ w.volume-is
          (passed_one _ c.args.rows.now c.loop-other.other c.loop-other.volume _ at w.if-rows-other.false c.loop-other.invariant)
    ]

pub returns : goal.returns
returns c =
    let over : c.loop-other.other ≡ c.args.v = omega (arith, c.loop-other-test.false, c.loop-other.auto.other-end) in
    record {
      row = _;
      is_row = slice_get-get_or c.args.rows.now c.args.v _ c.requires.volume;
      group_is = refl;
      within_is = c.loop-other.invariant.0 ∙ ap (place_in _ c.args.rows.now) over;
    }
