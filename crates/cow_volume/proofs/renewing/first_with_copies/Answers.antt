use Rattle.std.proofs.Common.{refl, sym, ◌∙◌, arith}
use Rattle.std.proofs.lemmas.Option.{none-some}
use Rattle.diff_map.proofs.Counting.{used_none}
use Rattle.cow_volume.proofs.renewing.first_with_copies.Goals as goal

pub returns-in-Some : goal.returns-in-Some
returns-in-Some c k d low high =
    let before = rw c.images.ensures.images at c.place_from.ensures.before in
    let below = before k d low high in
    used_none _ _ (λ slot copied row same. let from = c.in-Some.ensures.found.oldest slot copied row in absurd (omega arith))

pub returns-in-None : goal.returns-in-None
returns-in-None c k d low high = used_none _ _ (λ slot copied row same. none-some copied (sym (c.in-None.ensures.none refl slot) ∙ row))
