use Rattle.std.proofs.Common.{◌<◌, ◌∙◌, ◌++◌, ◌∷◌, [], List, ℕ, Bool, ap, sym, arith, length, take, slice_index_or}
use Rattle.std.specs.Prelude.{◌==◌, ◌||◌, filter, if◌then◌else◌}
use Rattle.cow_volume.specs.Calls.{is_among}
use Rattle.vss_recover.proofs.InParts.{filter_take, element_at, long_one_more}
use Rattle.vss_recover.proofs.finals.final_among.Goals as goal
use Rattle.vss_recover.proofs.finals.final_among.Goals.{then-is_final, else-is_final}

pub loop-image-preserved : goal.loop-image-preserved
loop-image-preserved c =
    let p : ℕ → Bool = λ s. (s == c.args.set) || is_among s c.args.finals.now in
    let images = c.args.images.now in
    let i = c.loop-image.image-index in
    let x = slice_index_or images i 0 in
    let within : i < length images = (let test = c.loop-image-test.true in omega arith) in
    let more = filter_take p images i x (element_at images i within) in
    elim c.if-is_final.branch [
      | then-is_final w ↦ rw w.out-is (record {
        gathered = w.push_within.ensures.items ∙ ap (λ (xs : List ℕ). xs ++ x ∷ []) c.loop-image.invariant.gathered
            ∙ sym (more ∙ ap (λ (t : Bool). if t then filter p (take i images) ++ x ∷ [] else filter p (take i images)) (sym c.is_final.ensures ∙ w.if-is_final.true));
        few = rw w.push_within.ensures.items (long_one_more c.loop-image.out.items x i c.loop-image.invariant.few);
        room = (let a = w.push_within.ensures.room in let b = c.loop-image.invariant.room in omega arith);
      })
      | else-is_final w ↦ rw w.out-is (record {
        gathered = c.loop-image.invariant.gathered
            ∙ sym (more ∙ ap (λ (t : Bool). if t then filter p (take i images) ++ x ∷ [] else filter p (take i images)) (sym c.is_final.ensures ∙ w.if-is_final.false));
        few = (let l = c.loop-image.invariant.few in omega arith);
        room = c.loop-image.invariant.room;
      })
    ]
