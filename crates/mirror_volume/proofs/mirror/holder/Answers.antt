use Rattle.std.proofs.Common.{◌≡◌, ◌<◌, ◌∙◌, sym, length, arith, Some}
use Rattle.mirror_volume.proofs.Keeping.{at_place, more_at, held_is, held_not}
use Rattle.mirror_volume.proofs.mirror.holder.Goals as goal

pub returns-then-holds_image-clause-found : goal.returns-then-holds_image-clause-found
returns-then-holds_image-clause-found g c =
    let within : c.loop-place.place < length c.args.mirrors.now = (let test = c.loop-place-test.true in omega arith) in
    record {
      mirror = c.index-mirrors-place.result;
      was = at_place c.args.mirrors.now c.loop-place.place c.index-mirrors-place.result within c.index-mirrors-place.is;
      held = held_is c.args.set c.index-mirrors-place.result.holds (sym c.holds_image.ensures ∙ c.if-holds_image.true);
    }

pub loop-place-preserved : goal.loop-place-preserved
loop-place-preserved g c =
    let within : c.loop-place.place < length c.args.mirrors.now = (let test = c.loop-place-test.true in omega arith) in
    λ k m l at. more_at (λ x. x.holds ≡ Some c.args.set → ⊥) c.args.mirrors.now c.loop-place.place c.index-mirrors-place.result
    (at_place c.args.mirrors.now c.loop-place.place c.index-mirrors-place.result within c.index-mirrors-place.is)
    (held_not c.args.set c.index-mirrors-place.result.holds (sym c.holds_image.ensures ∙ c.if-holds_image.false))
    (λ j x before is. c.loop-place.invariant j x before is) k m l at
