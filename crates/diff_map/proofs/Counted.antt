-- What a map keeps beside its copies: where an image is cut, a slot is noted or loses its copy, and images go.
use Rattle.std.proofs.Common.{ℕ, ◌≡◌, ◌≢◌, ◌+◌, ◌-◌, ◌<◌, ◌≤◌, ◌^◌, ◌++◌, inl, inr, List, [], ◌∷◌, length, get_or, set, map, Option, Some, None, refl, ap, sym}
use Rattle.std.proofs.Common.{◌∙◌, subst, arith, All, Contains, Vec, vec_capacity, Bool, true, ltb, leb, eqb, not, drop, take}
use Rattle.std.proofs.Math.Seq.{map-set_same}
use Rattle.std.proofs.lemmas.Bool.{cases_eq, cases_lt}
use Rattle.std.proofs.lemmas.Bool.Decides.{nat_tests}
use Rattle.std.proofs.lemmas.List.{get_or-map, get_or-set_same, get_or-set_other, length-append, length-map, length-set, map-append, get_or_default}
use Rattle.std.proofs.lemmas.List.Elements.{All-nil, All-cons, All-append, Contains-append_left, All-filter}
use Rattle.std.proofs.lemmas.List.Quantifiers.{all_pairs_push}
use Rattle.std.proofs.lemmas.List.Sums.{count_by-le-length}
use Rattle.std.proofs.lemmas.Option.{same_Some, none-some, slice_get_within, get_or_from_slice_get}
use Rattle.std.specs.List.{slice_get, AllPairs, filter, remove, AllWithin}
use Rattle.std.specs.Prelude.{IfSome}
use Rattle.std.specs.declared.alloc.Global.{Global}
use Rattle.std.proofs.lemmas.Grind.{common_steps}
use Rattle.diff_map.specs.Copies.{copied_at, copy_of, AreImages, KeepsImages}
use Rattle.diff_map.specs.Counts.{is_for, used_for, IsFor, IsChain, IsCounted, KeepsCounts, IsOldestUsed, IsFirstUsed}
use Rattle.diff_map.specs.declared.copied.Copied.{Copied}
use Rattle.diff_map.specs.declared.image_count.ImageCount.{ImageCount}
use Rattle.diff_map.proofs.Counting.{not_for, IsChain-other, IsChain-other_out, IsChain-noted, IsChain-popped, IsFor-first, used_noted, used_noted_other}
use Rattle.diff_map.proofs.Counting.{used_none, used_some, used_at, used_out, used_out_other}
use Rattle.diff_map.proofs.Images.{AreImages-filter, Contains-filter, filter_from, filter_one, filter_until}
use Rattle.diff_map.proofs.Renewal.{get_within}

-- ## What a map keeps beside its copies: where an image is cut, a slot is noted or loses its copy, and images go.

abbrev none_of : ImageCount
none_of = record { set = 0; used = 0; first = 0 }

abbrev pub sets_of : List ImageCount → List ℕ
sets_of counts = map (λ c. c.set) counts

-- ## one count

pub as_many : (images : List ℕ) (counts : List ImageCount) → sets_of counts ≡ images → length counts ≡ length images
as_many images counts same = sym (length-map counts (λ (c : ImageCount). c.set)) ∙ ap length same

pub set_at : (images : List ℕ) (counts : List ImageCount) (k : ℕ) (d : ImageCount) → sets_of counts ≡ images → k < length counts → (get_or counts k d).set ≡ get_or images k 0
set_at images counts k d same inside = sym (get_or-map (λ (c : ImageCount). c.set) counts k d 0 inside) ∙ ap (λ (xs : List ℕ). get_or xs k 0) same

-- the count at an image's place is that of the image
pub count_at : (images : List ℕ) (counts : List ImageCount) (next : List ℕ) (copies : List (Option Copied)) (image n : ℕ) (d : ImageCount) → sets_of counts ≡ images
    → All (IsCounted next copies) counts → n < length images → ((e : ℕ) → get_or images n e ≡ image) → ((get_or counts n d).set ≡ image) × IsCounted next copies (get_or counts n d)
count_at images counts next copies image n d same each inside is = grind (arith, as_many, set_at)

-- the counts at other places are of other images
pub other_image_at : (images : List ℕ) (image n k : ℕ) → AllPairs (λ older newer. older < newer) images → n < length images → ((d : ℕ) → get_or images n d ≡ image) → k < length images → k ≢ n
    → get_or images k 0 ≢ image
other_image_at images image n k rise inside is within other e = grind arith

-- one count changes
module _ (images : Vec ℕ Global) (counts newer : Vec ImageCount Global) (next later : List ℕ) (copies after : List (Option Copied)) (image n : ℕ) (new : ImageCount)
    (keeps : KeepsCounts images counts next copies) (rise : AllPairs (λ older newer. older < newer) images.items) (inside : n < length images.items) (is : (d : ℕ) → get_or images.items n d ≡ image)
    (items : newer.items ≡ set counts.items n new) (cap : vec_capacity counts ≤ vec_capacity newer) (set_is : new.set ≡ image) (as_long : length later ≡ length after) (ok : IsCounted later after new)
    (others : (c : ImageCount) → c.set ≢ image → IsCounted next copies c → IsCounted later after c) where
  each_now : All (IsCounted later after) (set counts.items n new)
  each_now k d within =
      let long = length-set counts.items n new in
      let many = as_many images.items counts.items keeps.sets in
      elim (cases_eq k n) [
        | inl same ↦ subst (IsCounted later after) (sym (ap (λ j. get_or (set counts.items n new) j d) same ∙ get_or-set_same counts.items n new d (omega arith))) ok
        | inr differ ↦
            let apart = other_image_at images.items image n k rise inside is (omega arith) differ in
            subst (IsCounted later after) (sym (get_or-set_other counts.items n k new d differ))
            (others (get_or counts.items k d) (λ e. apart (sym (set_at images.items counts.items k d keeps.sets (omega arith)) ∙ e)) (keeps.each k d (omega arith)))
      ]

  pub KeepsCounts-one : KeepsCounts images newer later after
  KeepsCounts-one =
      let many = as_many images.items counts.items keeps.sets in
      record {
        sets = ap sets_of items ∙ map-set_same (λ (c : ImageCount). c.set) counts.items n new none_of (set_is ∙ sym (is 0) ∙ sym (set_at images.items counts.items n none_of keeps.sets (omega arith)))
            ∙ keeps.sets;
        each = subst (All (IsCounted later after)) (sym items) each_now;
        count_room = let r = keeps.count_room in omega arith;
        long = as_long;
      }

-- ## a slot is noted

pub noted_other : (next : List ℕ) (copies : List (Option Copied)) (slot image block value : ℕ) → slice_get copies slot ≡ Some None → (c : ImageCount) → c.set ≢ image → IsCounted next copies c
    → IsCounted (set next slot value) (set copies slot (Some (copy_of image block))) c
noted_other next copies slot image block value unnoted c apart is =
    let none = get_or_from_slice_get copies slot None None unnoted in
    let inside = slice_get_within copies slot None unnoted in
    grind (arith, common_steps, used_noted_other, IsChain-other, not_for, same_Some, get_or-set_same)

pub noted_here : (next : List ℕ) (copies : List (Option Copied)) (slot image block : ℕ) (c : ImageCount) → slice_get copies slot ≡ Some None → length next ≡ length copies → c.set ≡ image
    → IsCounted next copies c
    → IsCounted (set next slot c.first) (set copies slot (Some (copy_of image block))) (record { set = image; used = c.used + 1; first = slot })
noted_here next copies slot image block c unnoted long set_is is = grind (arith, get_or_from_slice_get, slice_get_within, used_noted, IsChain-noted)

-- a slot that is not noted leaves room for one more
pub one_more_fits : (copies : List (Option Copied)) (slot image : ℕ) → length copies < 2 ^ 32 → slice_get copies slot ≡ Some None → used_for copies image + 1 < 2 ^ 32
one_more_fits copies slot image narrow unnoted =
    let fact = count_by-le-length (is_for image) (set copies slot (Some (copy_of image 0))) in
    grind (arith, common_steps, used_noted copies slot image 0 unnoted, length-set copies slot (Some (copy_of image 0)))

-- a row that changes keeps the images, if it is of one of them
pub KeepsImages-set : (images : Vec ℕ Global) (copies : List (Option Copied)) (slot : ℕ) (row : Option Copied) → KeepsImages images copies → IfSome row (λ c. Contains images.items c.set)
    → KeepsImages images (set copies slot row)
KeepsImages-set images copies slot row keeps ok = grind (arith, cases_eq, get_or-set_same, get_within, length-set, get_or-set_other, none-some, same_Some)

-- ## a slot loses its copy

pub popped_other : (next : List ℕ) (copies : List (Option Copied)) (slot image block : ℕ) → copied_at copies slot ≡ Some (copy_of image block) → (c : ImageCount) → c.set ≢ image
    → IsCounted next copies c → IsCounted next (set copies slot None) c
popped_other next copies slot image block was c apart is =
    grind (arith, common_steps, get_within, used_out_other, IsChain-other_out, same_Some, not_for, get_or-set_same)

pub popped_here : (next : List ℕ) (copies : List (Option Copied)) (image block value : ℕ) (c : ImageCount) → copied_at copies c.first ≡ Some (copy_of image block) → c.set ≡ image
    → value ≡ get_or next c.first 0 → IsCounted next copies c
    → IsCounted next (set copies c.first None) (record { set = image; used = c.used - 1; first = value })
popped_here next copies image block value c was set_is value_is is = grind (arith, used_out, IsChain-popped)

-- the first slot of an image that has a copy
pub first_for : (next : List ℕ) (copies : List (Option Copied)) (image : ℕ) (c : ImageCount) → c.set ≡ image → IsCounted next copies c → 0 < c.used → IsFor copies image c.first
first_for next copies image c set_is is some =
    let same : used_for copies c.set ≡ used_for copies image = ap (used_for copies) set_is in
    IsFor-first next copies image c.first (subst (λ s. IsChain next copies s c.first) set_is is.chain) (omega arith)

-- ## both, in what a map keeps

module _ (images : Vec ℕ Global) (counts : Vec ImageCount Global) (next : List ℕ) (copies : List (Option Copied)) (image n : ℕ) (count : ImageCount)
    (index : KeepsImages images copies) (keeps : KeepsCounts images counts next copies) (inside : n < length images.items) (is : (d : ℕ) → get_or images.items n d ≡ image)
    (read : count ≡ get_or counts.items n count) where
  pub count_is : (count.set ≡ image) × IsCounted next copies count
  count_is = subst (λ (c : ImageCount). (c.set ≡ image) × IsCounted next copies c) (sym read) (count_at images.items counts.items next copies image n count keeps.sets keeps.each inside is)

  pub used_is : count.used ≡ used_for copies image
  used_is = count_is.1.used ∙ ap (used_for copies) count_is.0

  pub KeepsCounts-noted : (newer : Vec ImageCount Global) (slot block : ℕ) → slice_get copies slot ≡ Some None
      → newer.items ≡ set counts.items n (record { set = image; used = count.used + 1; first = slot }) → vec_capacity counts ≤ vec_capacity newer
      → KeepsCounts images newer (set next slot count.first) (set copies slot (Some (copy_of image block)))
  KeepsCounts-noted newer slot block unnoted items cap =
      let long = keeps.long in
      let long_next = length-set next slot count.first in
      let long_copies = length-set copies slot (Some (copy_of image block)) in
      KeepsCounts-one images counts newer next (set next slot count.first) copies (set copies slot (Some (copy_of image block))) image n (record { set = image; used = count.used + 1; first = slot })
      keeps index.are_images.ascend inside is items cap refl (omega arith) (noted_here next copies slot image block count unnoted long count_is.0 count_is.1)
      (noted_other next copies slot image block count.first unnoted)

  pub KeepsCounts-popped : (newer : Vec ImageCount Global) (block value : ℕ) → copied_at copies count.first ≡ Some (copy_of image block) → value ≡ get_or next count.first 0
      → newer.items ≡ set counts.items n (record { set = image; used = count.used - 1; first = value }) → vec_capacity counts ≤ vec_capacity newer
      → KeepsCounts images newer next (set copies count.first None)
  KeepsCounts-popped newer block value was value_is items cap =
      let long_copies = length-set copies count.first None in
      KeepsCounts-one images counts newer next next copies (set copies count.first None) image n (record { set = image; used = count.used - 1; first = value })
      keeps index.are_images.ascend inside is items cap refl (omega arith) (popped_here next copies image block value count was count_is.0 value_is count_is.1)
      (popped_other next copies count.first image block was)

-- ## the count that is read at a place is that of the image there

module _ (images : Vec ℕ Global) (counts : Vec ImageCount Global) (next : List ℕ) (copies : List (Option Copied)) (n : ℕ) (count : ImageCount) (index : KeepsImages images copies)
    (keeps : KeepsCounts images counts next copies) (inside : n < length images.items) (read : count ≡ get_or counts.items n count) where
  counted : (count.set ≡ get_or images.items n 0) × IsCounted next copies count
  counted = count_is images counts next copies (get_or images.items n 0) n count index keeps inside (λ e. get_or_default images.items n e 0 inside) read

  pub place_of_count : (d : ℕ) → get_or images.items n d ≡ count.set
  place_of_count d = get_or_default images.items n d 0 inside ∙ sym counted.0

  pub used_at_place : count.used ≡ used_for copies (get_or images.items n 0)
  used_at_place = counted.1.used ∙ ap (used_for copies) counted.0

  pub first_at_place : (count.used ≡ 0 → ⊥) → (block : ℕ) × (copied_at copies count.first ≡ Some (copy_of count.set block)) × (count.first < length copies)
  first_at_place some =
      let it = first_for next copies count.set count refl counted.1 (omega arith) in
      (it.0, it.1, get_within copies count.first (copy_of count.set it.0) it.1)

-- ## an image is cut

pub KeepsImages-cut : (images later : Vec ℕ Global) (copies : List (Option Copied)) (image : ℕ) → KeepsImages images copies → length images.items < 512 → 0 < image → image < 2 ^ 32
    → All (λ i. i < image) images.items → later.items ≡ images.items ++ image ∷ []
    → vec_capacity images ≤ vec_capacity later → KeepsImages later copies
KeepsImages-cut images later copies image keeps short some narrow newest longer cap = record {
  are_images = subst AreImages (sym longer) (record {
    ascend = all_pairs_push (λ older newer. older < newer) images.items image keeps.are_images.ascend (λ k d inside. newest k d inside);
    above_zero = All-append (λ i. (0 < i) × (i < 2 ^ 32)) images.items (image ∷ []) keeps.are_images.above_zero
        (All-cons (λ i. (0 < i) × (i < 2 ^ 32)) image [] (some, narrow) (All-nil (λ i. (0 < i) × (i < 2 ^ 32))));
    few = let long = length-append images.items (image ∷ []) in omega arith;
  });
  of_images = λ slot c row. subst (λ (xs : List ℕ). Contains xs c.set) (sym longer) (Contains-append_left images.items (image ∷ []) c.set (keeps.of_images slot c row));
  image_room = let r = keeps.image_room in omega arith;
}

pub KeepsCounts-cut : (images later : Vec ℕ Global) (counts newer : Vec ImageCount Global) (next : List ℕ) (copies : List (Option Copied)) (image : ℕ) → KeepsImages images copies
    → KeepsCounts images counts next copies → All (λ i. i < image) images.items → later.items ≡ images.items ++ image ∷ []
    → newer.items ≡ counts.items ++ (record { set = image; used = 0; first = 0 }) ∷ [] → vec_capacity counts ≤ vec_capacity newer → KeepsCounts later newer next copies
KeepsCounts-cut images later counts newer next copies image index keeps newest longer more cap =
    let apart : (slot : ℕ) (c : Copied) → copied_at copies slot ≡ Some c
    → c.set ≢ image = λ slot c row same. let at = index.of_images slot c row in let low = newest at.0 c.set at.1 in let is : get_or images.items at.0 c.set ≡ c.set = at.2 in absurd (omega arith) in
    let new : ImageCount = record { set = image; used = 0; first = 0 } in
    let counted : IsCounted next copies new = record {
      used = sym (used_none copies image apart);
      chain = record { slots = []; lead = tt; once = tt; each = λ slot among. absurd among; all = λ slot it. absurd (apart slot (copy_of image it.0) it.1 refl) };
    } in
    record {
      sets = ap sets_of more ∙ map-append (λ (c : ImageCount). c.set) counts.items (new ∷ []) ∙ ap (λ (xs : List ℕ). xs ++ image ∷ []) keeps.sets ∙ sym longer;
      each = subst (All (IsCounted next copies)) (sym more)
          (All-append (IsCounted next copies) counts.items (new ∷ []) keeps.each (All-cons (IsCounted next copies) new [] counted (All-nil (IsCounted next copies))));
      count_room = let r = keeps.count_room in omega arith;
      long = keeps.long;
    }

-- ## the oldest image with a copy

pub oldest_found : (o : Option ℕ) (images : Vec ℕ Global) (counts : Vec ImageCount Global) (next : List ℕ) (copies : List (Option Copied)) → KeepsImages images copies
    → KeepsCounts images counts next copies → IfSome o (IsFirstUsed counts.items) → IfSome o (IsOldestUsed copies)
oldest_found None images counts next copies index keeps first = tt
oldest_found (Some image) images counts next copies index keeps first =
    let long = as_many images.items counts.items keeps.sets in
    let inside = slice_get_within counts.items first.place first.count first.at in
    let there_is : get_or counts.items first.place first.count ≡ first.count = get_or_from_slice_get counts.items first.place first.count first.count first.at in
    let it : get_or images.items first.place 0 ≡ image = sym (set_at images.items counts.items first.place first.count keeps.sets inside) ∙ ap (λ (c : ImageCount). c.set) there_is ∙ first.set_is in
    let used_is : first.count.used ≡ used_for copies image = (subst (IsCounted next copies) there_is (keeps.each first.place first.count inside)).used ∙ ap (used_for copies) first.set_is in
    let some = first.some in
    let at = used_at copies image (omega arith) in
    record {
      slot = at.0;
      block = at.1;
      row = at.2;
      oldest = λ other c row.
          let there = index.of_images other c row in
          let is : get_or images.items there.0 c.set ≡ c.set = there.2 in
          let within = there.1 in
          elim (cases_lt there.0 first.place) [
            | inl before ↦
                let same : (get_or counts.items there.0 first.count).set ≡ c.set = set_at images.items counts.items there.0 first.count keeps.sets (omega arith)
                ∙ get_or_default images.items there.0 0 c.set within ∙ is in
                let number = (keeps.each there.0 first.count (omega arith)).used in
                let of_set : used_for copies (get_or counts.items there.0 first.count).set ≡ used_for copies c.set = ap (used_for copies) same in
                let positive = used_some copies other c row in
                absurd (omega arith)
            | inr after ↦ elim (cases_eq there.0 first.place) [
              | inl same ↦ let e : get_or images.items there.0 c.set ≡ get_or images.items first.place c.set = ap
                  (λ (k : ℕ). get_or images.items k c.set) same in let f = get_or_default images.items first.place c.set 0 (omega arith) in omega arith
              | inr past ↦ let up = index.are_images.ascend first.place there.0 0 (omega arith) within in let f = get_or_default images.items there.0 0 c.set within in omega arith
            ]
          ];
    }

pub none_used : (images : Vec ℕ Global) (counts : Vec ImageCount Global) (next : List ℕ) (copies : List (Option Copied)) → KeepsImages images copies → KeepsCounts images counts next copies
    → All (λ (c : ImageCount). c.used ≡ 0) counts.items → (slot : ℕ) → copied_at copies slot ≡ None
none_used images counts next copies index keeps zero slot = by_row (copied_at copies slot) refl where
  by_row : (o : Option Copied) → copied_at copies slot ≡ o → copied_at copies slot ≡ None
  by_row None row = row
  by_row (Some c) row =
      let there = index.of_images slot c row in
      let within = there.1 in
      let is : get_or images.items there.0 c.set ≡ c.set = there.2 in
      let long = as_many images.items counts.items keeps.sets in
      let same : (get_or counts.items there.0 none_of).set ≡ c.set = set_at images.items counts.items there.0 none_of keeps.sets (omega arith) ∙ get_or_default images.items there.0 0 c.set within
      ∙ is in
      let number = (keeps.each there.0 none_of (omega arith)).used in
      let of_set : used_for copies (get_or counts.items there.0 none_of).set ≡ used_for copies c.set = ap (used_for copies) same in
      let positive = used_some copies slot c row in
      absurd (omega arith)

-- ## What a map keeps of its images and their counts where some images go.

sets-filter : (p : ℕ → Bool) (counts : List ImageCount) → sets_of (filter (λ c. p c.set) counts) ≡ filter p (sets_of counts)
sets-filter p [] = refl
sets-filter p (c ∷ cs) = grind (arith, common_steps, sets-filter p cs)

pub KeepsCounts-left : (p : ℕ → Bool) (images later : Vec ℕ Global) (counts left : Vec ImageCount Global) (next : List ℕ) (copies : List (Option Copied)) → KeepsCounts images counts next copies
    → later.items ≡ filter p images.items → left.items ≡ filter (λ c. p c.set) counts.items → vec_capacity left ≡ vec_capacity counts → KeepsCounts later left next copies
KeepsCounts-left p images later counts left next copies keeps fewer less cap = record {
  sets = ap sets_of less ∙ sets-filter p counts.items ∙ ap (filter p) keeps.sets ∙ sym fewer;
  each = subst (All (IsCounted next copies)) (sym less) (All-filter (λ c. p c.set) (IsCounted next copies) counts.items keeps.each);
  count_room = let r = keeps.count_room in omega arith;
  long = keeps.long;
}

pub counts_dropped : (set n : ℕ) (images : List ℕ) (counts : List ImageCount) → sets_of counts ≡ images → n ≤ length images → AllWithin (λ image. image ≤ set) images 0 n
    → AllWithin (λ image. set < image) images n (length images) → drop n counts ≡ filter (λ c. ltb set c.set) counts
counts_dropped set n images counts same within go stay = grind (arith, as_many, filter_from, set_at)

pub counts_without : (set n : ℕ) (images : List ℕ) (counts : List ImageCount) → sets_of counts ≡ images → AllPairs (λ older newer. older < newer) images → n < length images
    → ((d : ℕ) → get_or images n d ≡ set) → remove counts n ≡ filter (λ c. not (eqb c.set set)) counts
counts_without set n images counts same rise inside is =
    let many = as_many images counts same in
    filter_one (λ c. not (eqb c.set set)) n counts (omega arith)
    (λ k d within apart. let e = set_at images counts k d same within in let differs = other_image_at images set n k rise inside is (omega arith) apart in grind (arith, nat_tests))
    (λ d. let e = set_at images counts n d same (omega arith) in let here = is 0 in grind (arith, nat_tests))

pub counts_until : (set n : ℕ) (images : List ℕ) (counts : List ImageCount) → sets_of counts ≡ images → n ≤ length images → AllWithin (λ image. image ≤ set) images 0 n
    → AllWithin (λ image. set < image) images n (length images) → take n counts ≡ filter (λ c. leb c.set set) counts
counts_until set n images counts same within stay go = grind (arith, as_many, filter_until, set_at)

pub KeepsImages-left : (p : ℕ → Bool) (images later : Vec ℕ Global) (copies : List (Option Copied)) → KeepsImages images copies
    → ((slot : ℕ) (c : Copied) → copied_at copies slot ≡ Some c → p c.set ≡ true) → later.items ≡ filter p images.items → vec_capacity later ≡ vec_capacity images → KeepsImages later copies
KeepsImages-left p images later copies keeps stays fewer cap = record {
  are_images = subst AreImages (sym fewer) (AreImages-filter p images.items keeps.are_images);
  of_images = λ slot c row. subst (λ (xs : List ℕ). Contains xs c.set) (sym fewer) (Contains-filter p images.items c.set (stays slot c row) (keeps.of_images slot c row));
  image_room = let r = keeps.image_room in omega arith;
}
