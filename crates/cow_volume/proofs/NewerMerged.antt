-- What a volume's copies are once the newer images are merged down: what the image of a set shows is found where it was, and once the
-- copies of that image go too, it is all the same whether the newer images were merged before.
use Rattle.std.proofs.Common.{◌≡◌, ◌≢◌, ◌<◌, ◌≤◌, ◌-◌, ◌⊎◌, ℕ, zero, suc, Bool, true, false, not, List, [], ◌∷◌, length, map, refl, ap, sym, subst, ◌∙◌, arith, Option, Some, inl, inr, get_or}
use Rattle.std.specs.Prelude.{filter, slice_get, slice_set, if◌then◌else◌, ◌==◌, nat_le, All, Contains}
use Rattle.std.proofs.lemmas.Bool.{cases_eq, cases_lt}
use Rattle.std.proofs.lemmas.Bool.Decides.{nat_tests}
use Rattle.std.proofs.lemmas.List.{get_or_default}
use Rattle.std.proofs.lemmas.Option.{same_Some}
use Rattle.std.proofs.lemmas.Simd.{map-map}
use Rattle.write_history.specs.History.{History, dropped}
use Rattle.diff_area.specs.declared.table_record.Record.{Record}
use Rattle.diff_map.specs.Copies.{AreImages}
use Rattle.diff_map.specs.Rules.{next_older}
use Rattle.diff_map.proofs.Images.{AreImages-filter, Contains-filter, next_older_is, next_older_reaches}
use Rattle.cow_volume.specs.StandsFor.{record_of, StandsFor}
use Rattle.cow_volume.specs.Changes.{has_record, merged, merged_row, cleared, cleared_row, IsFirstCopy, HasNoCopy}
use Rattle.cow_volume.specs.Parts.{CopiesValue, group_of}
use Rattle.cow_volume.specs.Calls.{changed_at, is_among}
use Rattle.cow_volume.specs.CopiesAfter.{images_on, after_merge}
use Rattle.cow_volume.specs.Restoring.{IsMergedTo}
use Rattle.cow_volume.proofs.Group.{number_is_other}
use Rattle.cow_volume.proofs.Merging.{merged_from, merged_stays, merged_moves, was_row, found_record, free_set, AreWithin, of_image, is_of-other_set}
use Rattle.cow_volume.proofs.GroupReverts.{IsDropping, dropping_none, dropping_more, dropping_end, fewer_left, among_of, contains_of, images_after, last_most}
use Rattle.cow_volume.proofs.GroupReverts.{merged_stands_within}
use Rattle.cow_volume.proofs.Renewed.{of_set}

-- ## one image goes

-- each record of volume v is of one of these images
abbrev pub AreOf : ℕ → List Record → List ℕ → Type 0
AreOf v records images = (slot set b : ℕ) → 0 < set → slice_get records slot ≡ Some (record_of v set b) → Contains images set

-- a record that stands after an image went, where it is of volume v: it stood there, or the next older image was given it
pub record CameFrom (records : List Record) (v : ℕ) (older : Option ℕ) (newest slot set b : ℕ) : Type 0 where
  image : ℕ
  was : slice_get records slot ≡ Some (record_of v image b)
  how : ((image ≡ set) × (image ≢ newest)) ⊎ ((image ≡ newest) × (older ≡ Some set))

came_from : (records : List Record) (v : ℕ) (older : Option ℕ) (newest slot set b : ℕ) → 0 < set → slice_get (merged v older newest records) slot ≡ Some (record_of v set b)
    → CameFrom records v older newest slot set b
came_from records v older newest slot set b above at = grind (arith, was_row, merged_from, of_set, free_set, of_image)

-- what is found for an older set stays where it was
module _ (records : List Record) (images : List ℕ) (v set newest b : ℕ) (rise : AreImages images) (of : AreOf v records images) (above : 0 < set) (newer : set < newest) (o : ℕ)
    (next : next_older images newest ≡ Some o) (reached : set ≤ o) where
  gone_down : o < newest
  gone_down = (next_older_is images newest o next).0

  next_of : (slot image : ℕ) → set ≤ image → slice_get records slot ≡ Some (record_of v image b) → image < newest → image ≤ o
  next_of slot image le at low =
      let reach = next_older_reaches images newest image rise.ascend (of slot image b (omega arith) at) low in
      let same : reach.0 ≡ o = same_Some reach.0 o (sym reach.1 ∙ next) in
      let l = reach.2 in
      omega arith

  -- its image is another
  found_stays : (slot : ℕ) (found : IsFirstCopy records v set b slot) → found.image ≢ newest → IsFirstCopy (merged v (Some o) newest records) v set b slot
  found_stays slot found other = record {
    image = found.image;
    is_noted = merged_stays records v (Some o) newest slot (record_of v found.image b) (is_of-other_set v found.image newest b other) found.is_noted;
    from_set = found.from_set;
    first = λ place image there le.
        let from = came_from records v (Some o) newest place image b (omega arith) there in
        elim from.how [
          | inl stood ↦ found.first place image (from.was ∙ ap (λ (s : ℕ). Some (record_of v s b)) stood.0) le
          | inr given ↦ (
              let w : slice_get records place ≡ Some (record_of v newest b) = from.was ∙ ap (λ (s : ℕ). Some (record_of v s b)) given.0 in
              let most = found.first place newest w (omega arith) in
              let same : o ≡ image = same_Some o image given.1 in
              let l = next_of slot found.image found.from_set found.is_noted (omega arith) in
              omega arith)
        ];
  }

  -- its image is the one that goes
  found_moves : (slot : ℕ) (found : IsFirstCopy records v set b slot) → found.image ≡ newest → IsFirstCopy (merged v (Some o) newest records) v set b slot
  found_moves slot found is = by_copy (has_record records (record_of v o b)) refl where
    by_copy : (t : Bool) → has_record records (record_of v o b) ≡ t → IsFirstCopy (merged v (Some o) newest records) v set b slot
    by_copy true has =
        let there = found_record records (record_of v o b) has in
        let first = found.first there.0 o there.1 reached in
        let low = gone_down in
        absurd (omega arith)
    by_copy false none = record {
      image = o;
      is_noted = merged_moves records v o newest slot b none (found.is_noted ∙ ap (λ (s : ℕ). Some (record_of v s b)) is);
      from_set = reached;
      first = λ place image there le.
          let from = came_from records v (Some o) newest place image b (omega arith) there in
          let low = gone_down in
          elim from.how [
            | inl stood ↦ (let l = found.first place image (from.was ∙ ap (λ (s : ℕ). Some (record_of v s b)) stood.0) le in omega arith)
            | inr given ↦ (let same : o ≡ image = same_Some o image given.1 in omega arith)
          ];
    }

  found_after : (slot : ℕ) → IsFirstCopy records v set b slot → IsFirstCopy (merged v (Some o) newest records) v set b slot
  found_after slot found = elim (cases_eq found.image newest) [
    | inl same ↦ found_moves slot found same
    | inr other ↦ found_stays slot found other
  ]

  none_after : HasNoCopy records v set b → HasNoCopy (merged v (Some o) newest records) v set b
  none_after none = λ slot image there le.
      let from = came_from records v (Some o) newest slot image b (omega arith) there in
      elim from.how [
        | inl stood ↦ none slot image (from.was ∙ ap (λ (s : ℕ). Some (record_of v s b)) stood.0) le
        | inr given ↦ none slot newest (from.was ∙ ap (λ (s : ℕ). Some (record_of v s b)) given.0) (omega arith)
      ]

found_merged : (records : List Record) (images : List ℕ) (v set newest b slot : ℕ) → AreImages images → AreOf v records images → 0 < set → set < newest → Contains images set
    → IsFirstCopy records v set b slot → IsFirstCopy (merged v (next_older images newest) newest records) v set b slot
found_merged records images v set newest b slot rise of above newer at found =
    let reach = next_older_reaches images newest set rise.ascend at newer in
    subst (λ (older : Option ℕ). IsFirstCopy (merged v older newest records) v set b slot) (sym reach.1)
    (found_after records images v set newest b rise of above newer reach.0 reach.1 reach.2 slot found)

none_merged : (records : List Record) (images : List ℕ) (v set newest b : ℕ) → AreImages images → AreOf v records images → 0 < set → set < newest → Contains images set → HasNoCopy records v set b
    → HasNoCopy (merged v (next_older images newest) newest records) v set b
none_merged records images v set newest b rise of above newer at none =
    let reach = next_older_reaches images newest set rise.ascend at newer in
    subst (λ (older : Option ℕ). HasNoCopy (merged v older newest records) v set b) (sym reach.1) (none_after records images v set newest b rise of above newer reach.0 reach.1 reach.2 none)

-- the records are of the images that are left
of_merged : (records : List Record) (images : List ℕ) (v newest : ℕ) → AreOf v records images → AreOf v (merged v (next_older images newest) newest records) (filter (λ s. not (s == newest)) images)
of_merged records images v newest of = λ slot set b above at.
    let from = came_from records v (next_older images newest) newest slot set b above at in
    elim from.how [
      | inl stood ↦ (
          let there : slice_get records slot ≡ Some (record_of v set b) = from.was ∙ ap (λ (s : ℕ). Some (record_of v s b)) stood.0 in
          let other : set ≢ newest = λ same. stood.1 (stood.0 ∙ same) in
          Contains-filter (λ s. not (s == newest)) images set (is_left set newest other) (of slot set b above there))
      | inr given ↦ (
          let is = next_older_is images newest set given.1 in
          let low = is.0 in
          Contains-filter (λ s. not (s == newest)) images set (is_left set newest (λ same. omega arith)) is.1)
    ]
  where
    is_left : (s n : ℕ) → s ≢ n → not (s == n) ≡ true
    is_left s n d = ap not (number_is_other s n d)

within_merged : (records : List Record) (v n : ℕ) (older : Option ℕ) (newest : ℕ) → 0 < newest → AreWithin v n records → AreWithin v n (merged v older newest records)
within_merged records v n older newest some within = record {
  each = λ slot set b above at.
      let from = came_from records v older newest slot set b above at in
      elim from.how [
        | inl stood ↦ within.each slot set b above (from.was ∙ ap (λ (s : ℕ). Some (record_of v s b)) stood.0)
        | inr given ↦ within.each slot newest b some (from.was ∙ ap (λ (s : ℕ). Some (record_of v s b)) given.0)
      ];
}

-- ## the copies from the set on go

cleared_row_same : (records : List Record) (v set newest o : ℕ) (r : Record) → set ≤ o → o < newest → cleared_row v set (merged_row records v (Some o) newest r) ≡ cleared_row v set r
cleared_row_same records v set newest o r le low = grind arith

map_same : {X Y : Type 0} (f g : X → Y) (xs : List X) → ((x : X) → f x ≡ g x) → map f xs ≡ map g xs
map_same f g xs e = grind arith

cleared_same : (records : List Record) (images : List ℕ) (v set newest : ℕ) → AreImages images → set < newest → Contains images set
    → cleared v set (merged v (next_older images newest) newest records) ≡ cleared v set records
cleared_same records images v set newest rise newer at =
    let reach = next_older_reaches images newest set rise.ascend at newer in
    let low = (next_older_is images newest reach.0 reach.1).0 in
    ap (λ (older : Option ℕ). cleared v set (merged v older newest records)) reach.1
    ∙ map-map (cleared_row v set) (merged_row records v (Some reach.0) newest) records
    ∙ map_same (λ r. cleared_row v set (merged_row records v (Some reach.0) newest r)) (cleared_row v set) records (λ r. cleared_row_same records v set newest reach.0 r reach.2 low)

up_to_same : (set newest : ℕ) (xs : List ℕ) → set < newest → filter (λ s. nat_le s set) (filter (λ s. not (s == newest)) xs) ≡ filter (λ s. nat_le s set) xs
up_to_same set newest [] l = refl
up_to_same set newest (x ∷ xs) l = by_test (x == newest) refl (up_to_same set newest xs l) where
  too_new : (a b c : ℕ) → a < b → (c == b) ≡ true → nat_le c a ≡ false
  too_new a b c k e = grind (arith, nat_tests)

  by_test : (t : Bool) → (x == newest) ≡ t → filter (λ s. nat_le s set) (filter (λ s. not (s == newest)) xs) ≡ filter (λ s. nat_le s set) xs
      → filter (λ s. nat_le s set) (if not t then x ∷ filter (λ s. not (s == newest)) xs else filter (λ s. not (s == newest)) xs) ≡ filter (λ s. nat_le s set) (x ∷ xs)
  by_test true e rest = rest ∙ sym (ap (λ (t : Bool). if t then x ∷ filter (λ s. nat_le s set) xs else filter (λ s. nat_le s set) xs) (too_new set newest x l e))
  by_test false e rest = ap (λ ys. if nat_le x set then x ∷ ys else ys) rest

set_twice : {X : Type 0} (xs : List X) (v : ℕ) (a b : X) → slice_set (slice_set xs v a) v b ≡ slice_set xs v b
set_twice [] v a b = refl
set_twice (x ∷ xs) zero a b = refl
set_twice (x ∷ xs) (suc v) a b = ap (λ ys. x ∷ ys) (set_twice xs v a b)

-- ## the newer images go, the newest first

pub record IsMerging {D : Type 0} (told : D → Option (List (List ℕ))) (old now : CopiesValue D) (v set : ℕ) : Type 0 where
  pub dropping : IsDropping told old now v set
  pub above : 0 < set
  pub rise : AreImages (images_on now v)
  pub of : AreOf v now.area.records (images_on now v)
  pub within : (n : ℕ) → slice_get now.area.volumes v ≡ Some n → AreWithin v n now.area.records
  pub found : (b slot : ℕ) → IsFirstCopy old.area.records v set b slot → IsFirstCopy now.area.records v set b slot
  pub none : (b : ℕ) → HasNoCopy old.area.records v set b → HasNoCopy now.area.records v set b
  pub records : cleared v set now.area.records ≡ cleared v set old.area.records
  pub sets : filter (λ s. nat_le s set) (images_on now v) ≡ filter (λ s. nat_le s set) (images_on old v)
  pub others : (xs : List ℕ) → slice_set now.images v xs ≡ slice_set old.images v xs

pub merging_none : {D : Type 0} (told : D → Option (List (List ℕ))) (old : CopiesValue D) (v set : ℕ) → is_among set (images_on old v) ≡ true → 0 < set → AreImages (images_on old v)
    → AreOf v old.area.records (images_on old v)
    → ((n : ℕ) → slice_get old.area.volumes v ≡ Some n → AreWithin v n old.area.records) → IsMerging told old old v set
merging_none told old v set among above rise of within = record {
  dropping = dropping_none told old v set among;
  above = above;
  rise = rise;
  of = of;
  within = within;
  found = λ b slot f. f;
  none = λ b n. n;
  records = refl;
  sets = refl;
  others = λ xs. refl;
}

-- one more
merging_one : {D : Type 0} (told : D → Option (List (List ℕ))) (old now : CopiesValue D) (v set newest : ℕ) → IsMerging told old now v set → set < newest → Contains (images_on now v) newest
    → ((devices : List D) (hs : List History) → StandsFor told (group_of devices now) hs → StandsFor told (group_of devices (after_merge now v newest)) (changed_at v (dropped newest) hs))
    → IsMerging told old (after_merge now v newest) v set
merging_one {D = D} told old now v set newest m newer at drops =
    let there = among_of newest (images_on now v) at in
    let has = contains_of set (images_on now v) m.dropping.among in
    let left = images_after now v newest there in
    record {
      dropping = dropping_more told old now (after_merge now v newest) v set newest m.dropping newer at refl drops;
      above = m.above;
      rise = subst AreImages (sym left) (AreImages-filter (λ s. not (s == newest)) (images_on now v) m.rise);
      of = subst (AreOf v (after_merge now v newest).area.records) (sym left) (of_merged now.area.records (images_on now v) v newest m.of);
      within = λ n is. within_merged now.area.records v n (next_older (images_on now v) newest) newest (let a = m.above in omega arith) (m.within n is);
      found = λ b slot f. found_merged now.area.records (images_on now v) v set newest b slot m.rise m.of m.above newer has (m.found b slot f);
      none = λ b n. none_merged now.area.records (images_on now v) v set newest b m.rise m.of m.above newer has (m.none b n);
      records = cleared_same now.area.records (images_on now v) v set newest m.rise newer has ∙ m.records;
      sets = ap (filter (λ s. nat_le s set)) left ∙ up_to_same set newest (images_on now v) newer ∙ m.sets;
      others = λ xs. set_twice now.images v (filter (λ s. not (s == newest)) (images_on now v)) xs ∙ m.others xs;
    }

pub merging_more : {D : Type 0} (told : D → Option (List (List ℕ))) (old now new : CopiesValue D) (v set newest : ℕ) → IsMerging told old now v set → set < newest → Contains (images_on now v) newest
    → new ≡ after_merge now v newest
    → ((devices : List D) (hs : List History) → StandsFor told (group_of devices now) hs → StandsFor told (group_of devices new) (changed_at v (dropped newest) hs)) → IsMerging told old new v set
merging_more {D = D} told old now new v set newest m newer at is drops =
    subst (λ (c : CopiesValue D). IsMerging told old c v set) (sym is) (merging_one told old now v set newest m newer at
    (λ devices hs stands. subst (λ (c : CopiesValue D). StandsFor told (group_of devices c) (changed_at v (dropped newest) hs)) is (drops devices hs stands)))

pub merging_end : {D : Type 0} (told : D → Option (List (List ℕ))) (old now : CopiesValue D) (v set : ℕ) → IsMerging told old now v set → v < length old.area.volumes
    → All (λ s. s ≤ set) (images_on now v) → IsMergedTo told old now v set
merging_end told old now v set m inside most = record {
  gone = dropping_end told old now v set m.dropping inside most;
  found = m.found;
  none = m.none;
  records = m.records;
  sets = m.sets;
  others = m.others;
}

-- there is always such an end
pub record AreMergeable {D : Type 0} (told : D → Option (List (List ℕ))) (old : CopiesValue D) (v set : ℕ) : Type 0 where
  pub mid : CopiesValue D
  pub merged_to : IsMergedTo told old mid v set

last_or : (xs : List ℕ) (set : ℕ) → AreImages xs → (All (λ s. s ≤ set) xs) ⊎ ((newest : ℕ) × (set < newest) × Contains xs newest)
last_or [] set rise = inl (λ k d l. absurd (omega arith))
last_or (x ∷ rest) set rise =
    let xs = x ∷ rest in
    elim (cases_lt set (get_or xs (length xs - 1) 0)) [
      | inl newer ↦ inr (get_or xs (length xs - 1) 0, newer, (length xs - 1, omega arith, get_or_default xs (length xs - 1) (get_or xs (length xs - 1) 0) 0 (omega arith)))
      | inr older ↦ inl (last_most xs set 0 rise.ascend older)
    ]

pub merge_all : {D : Type 0} (told : D → Option (List (List ℕ))) (old now : CopiesValue D) (v set fuel : ℕ) → length (images_on now v) ≤ fuel → IsMerging told old now v set
    → v < length old.area.volumes → AreMergeable told old v set
merge_all told old now v set zero few m inside =
    record { mid = now; merged_to = merging_end told old now v set m inside (λ k d l. absurd (omega arith)) }
merge_all {D = D} told old now v set (suc fuel) few m inside = elim (last_or (images_on now v) set m.rise) [
  | inl most ↦ record { mid = now; merged_to = merging_end told old now v set m inside most }
  | inr more ↦ (
      let newest = more.0 in
      let fewer = fewer_left now (after_merge now v newest) v newest refl more.2 in
      merge_all told old (after_merge now v newest) v set fuel (omega arith)
      (merging_one told old now v set newest m more.1 more.2 (λ devices hs stands. merged_stands_within told devices now hs v newest m.within more.2 stands)) inside)
]
