use Rattle.std.proofs.Common.{◌≡◌, ◌<◌, ◌∙◌, sym, length, arith, false}
use Rattle.std.proofs.lemmas.Option.{slice_get_within}
use Rattle.mirror_volume.specs.Mirrors.{is_ready}
use Rattle.mirror_volume.proofs.Keeping.{at_place, more_at}
use Rattle.mirror_volume.proofs.mirror.first_ready.Goals as goal

pub returns-then-is_ready-clause-first : goal.returns-then-is_ready-clause-first
returns-then-is_ready-clause-first g c =
    let within : c.loop-place.place < length c.args.mirrors.now = (let test = c.loop-place-test.true in omega arith) in
    record {
      mirror = c.index-mirrors-place.result;
      was = at_place c.args.mirrors.now c.loop-place.place c.index-mirrors-place.result within c.index-mirrors-place.is;
      ready = sym c.is_ready.ensures ∙ c.if-is_ready.true;
      first = λ k m l at. c.loop-place.invariant k m l at;
    }

pub loop-place-preserved : goal.loop-place-preserved
loop-place-preserved g c =
    let within : c.loop-place.place < length c.args.mirrors.now = (let test = c.loop-place-test.true in omega arith) in
    λ k m l at. more_at (λ x. is_ready x ≡ false) c.args.mirrors.now c.loop-place.place c.index-mirrors-place.result
    (at_place c.args.mirrors.now c.loop-place.place c.index-mirrors-place.result within c.index-mirrors-place.is) (sym c.is_ready.ensures ∙ c.if-is_ready.false)
    (λ j x before is. c.loop-place.invariant j x before is) k m l at

pub returns-clause-none : goal.returns-clause-none
returns-clause-none g c = λ none k m at. c.loop-place.invariant k m (let within = slice_get_within c.args.mirrors.now k m at in let test = c.loop-place-test.false in omega arith) at
