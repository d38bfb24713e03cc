-- The maps of a group where none has an image yet.
use Rattle.std.proofs.Common.{ℕ, ◌≡◌, ◌+◌, ◌<◌, ◌≤◌, ◌^◌, ◌++◌, inl, inr, List, [], ◌∷◌, length, get_or, map, replicate, take, Option, Some, None, ap, sym, ◌∙◌, subst}
use Rattle.std.proofs.Common.{arith, All}
use Rattle.std.proofs.lemmas.Bool.{cases_lt}
use Rattle.std.proofs.lemmas.List.{map-append, length-append, length-replicate, take_more}
use Rattle.std.proofs.lemmas.List.Elements.{All-append, All-cons, All-nil}
use Rattle.std.proofs.lemmas.List.Quantifiers.{all_pairs_push}
use Rattle.std.proofs.lemmas.Grind.{common_steps}
use Rattle.diff_map.specs.declared.copied.Copied.{Copied}
use Rattle.diff_map.specs.declared.of_volume.OfVolume.{OfVolume}
use Rattle.diff_map.specs.Copies.{copied_at, noted_in, MapValue, AreImages}
use Rattle.diff_map.specs.Groups.{new_map, Part, part_of, map_of, AreParts, KeepsVolume, KeepsGroup, IsEmpty}
use Rattle.diff_map.proofs.Grouped.{own_none}

abbrev none_of : ℕ → List (Option Copied)
none_of slots = replicate slots None

none_at : (slots slot : ℕ) (c : Copied) → copied_at (none_of slots) slot ≡ Some c → ⊥
none_at slots slot c is = grind (arith, common_steps)

none_noted : (slots : ℕ) → noted_in (none_of slots) ≡ 0
none_noted slots = grind (arith, common_steps)

no_images : AreImages []
no_images = record { ascend = λ i j d lt inside. absurd (omega arith); above_zero = All-nil (λ image. (0 < image) × (image < 2 ^ 32)); few = omega arith }

KeepsVolume-empty : (slots base blocks : ℕ) (volume : OfVolume) → IsEmpty base blocks volume → KeepsVolume (replicate slots 0) (none_of slots) volume
KeepsVolume-empty slots base blocks volume empty =
    let none = own_none (part_of volume) slots in grind (arith, common_steps, no_images, none_at, length-replicate, none_noted)

last_of : (parts : List Part) (new p : Part) → get_or (parts ++ new ∷ []) (length parts) p ≡ new
last_of parts new p = grind (arith, common_steps)

front_of : (parts : List Part) (new p : Part) (k : ℕ) → k < length parts → get_or (parts ++ new ∷ []) k p ≡ get_or parts k p
front_of parts new p k inside = grind (arith, common_steps)

AreParts-push : (base count : ℕ) (parts : List Part) → AreParts base parts → base + count < 2 ^ 32 → AreParts (base + count) (parts ++ (record { base = base; blocks = count }) ∷ [])
AreParts-push base count parts are narrow =
    let long = length-append parts ((record { base = base; blocks = count }) ∷ []) in
    record {
      apart = all_pairs_push (λ (p q : Part). p.base + p.blocks ≤ q.base) parts (record { base = base; blocks = count }) are.apart (λ k d inside. are.within k d inside);
      within = All-append (λ (p : Part). p.base + p.blocks ≤ base + count) parts ((record { base = base; blocks = count }) ∷ []) (λ k d inside. let w = are.within k d inside in omega arith)
          (All-cons (λ (p : Part). p.base + p.blocks ≤ base + count) (record { base = base; blocks = count }) [] (omega arith) (All-nil (λ (p : Part). p.base + p.blocks ≤ base + count)));
      all = λ block low. elim (cases_lt block base) [
        | inl before ↦
            let at = are.all block before in (
              at.0,
              let inside = at.1 in omega arith,
              λ p. subst (λ (q : Part). q.base ≤ block) (sym (front_of parts (record { base = base; blocks = count }) p at.0 at.1)) (at.2 p),
              λ p. subst (λ (q : Part). block < q.base + q.blocks) (sym (front_of parts (record { base = base; blocks = count }) p at.0 at.1)) (at.3 p),
            )
        | inr after ↦
            (length parts, omega arith, λ p. subst (λ (q : Part). q.base ≤ block) (sym (last_is p)) after, λ p. subst (λ (q : Part). block < q.base + q.blocks) (sym (last_is p)) low)
      ];
      narrow = narrow;
    } where
      last_is : (p : Part) → get_or (parts ++ (record { base = base; blocks = count }) ∷ []) (length parts) p ≡ record { base = base; blocks = count }
      last_is p = last_of parts (record { base = base; blocks = count }) p

-- the volumes so far
pub record AreBegun (base slots : ℕ) (blocks : List ℕ) (volumes : List OfVolume) : Type 0 where
  pub parts : AreParts base (map part_of volumes)
  pub each : All (KeepsVolume (replicate slots 0) (none_of slots)) volumes
  pub view : map (map_of (none_of slots)) volumes ≡ map (new_map slots) blocks

pub AreBegun-none : (slots : ℕ) → AreBegun 0 slots [] []
AreBegun-none slots = grind arith

pub AreBegun-one : (base count slots k : ℕ) (blocks : List ℕ) (volumes later : List OfVolume) (volume : OfVolume) → AreBegun base slots (take k blocks) volumes → IsEmpty base count volume
    → base + count < 2 ^ 32 → k < length blocks → get_or blocks k 0 ≡ count → later ≡ volumes ++ volume ∷ [] → AreBegun (base + count) slots (take (k + 1) blocks) later
AreBegun-one base count slots k blocks volumes later volume begun empty narrow inside is more = subst (AreBegun (base + count) slots (take (k + 1) blocks)) (sym more) (record {
  parts = subst (AreParts (base + count)) (sym (map-append part_of volumes (volume ∷ []) ∙ ap (λ (p : Part). map part_of volumes ++ p ∷ []) empty.part))
      (AreParts-push base count (map part_of volumes) begun.parts narrow);
  each = All-append (KeepsVolume (replicate slots 0) (none_of slots)) volumes (volume ∷ []) begun.each
      (All-cons (KeepsVolume (replicate slots 0) (none_of slots)) volume [] (KeepsVolume-empty slots base count volume empty) (All-nil (KeepsVolume (replicate slots 0) (none_of slots))));
  view =
      let map_is : map_of (none_of slots) volume ≡ new_map slots count = ap (λ (cs : List (Option Copied)). with_blocks volume.blocks volume.images.items cs) (own_none (part_of volume) slots)
      ∙ ap (λ (xs : List ℕ). with_blocks volume.blocks xs (none_of slots)) empty.images ∙ ap (λ (p : Part). with_blocks p.blocks [] (none_of slots)) empty.part in
      map-append (map_of (none_of slots)) volumes (volume ∷ []) ∙ ap (λ (ms : List MapValue). ms ++ map_of (none_of slots) volume ∷ []) begun.view
      ∙ ap (λ (m : MapValue). map (new_map slots) (take k blocks) ++ m ∷ []) (map_is ∙ ap (new_map slots) (sym is))
      ∙ sym (map-append (new_map slots) (take k blocks) (get_or blocks k 0 ∷ [])) ∙ ap (map (new_map slots)) (sym (take_more blocks k 0 inside));
}) where
  with_blocks : ℕ → List ℕ → List (Option Copied) → MapValue
  with_blocks blocks images copies = record { blocks = blocks; images = images; copies = copies }

pub KeepsGroup-begun : (base slots : ℕ) (blocks : List ℕ) (volumes : List OfVolume) (next : List ℕ) → AreBegun base slots blocks volumes → next ≡ replicate slots 0
    → KeepsGroup base volumes next (none_of slots)
KeepsGroup-begun base slots blocks volumes next begun is = grind arith
