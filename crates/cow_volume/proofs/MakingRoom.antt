-- What the calls on copies leave, from what they leave of a volume's map; and images that go up to a set so that a write has its slot.
use Rattle.std.proofs.Common.{ℕ, zero, suc, ◌≡◌, ◌<◌, not, List, [], ◌∷◌, ◌++◌, map, Option, Some, slice_get, slice_set, refl, sym, ap, ◌∙◌, subst, Contains}
use Rattle.std.proofs.Common.{arith, ◌≢◌, ◌≤◌, ◌+◌, ◌-◌, Bool, true, false, ◌&&◌, ◌||◌, length, filter, None, inl, inr, ◌⊎◌}
use Rattle.std.proofs.lemmas.Bool.{false≢true, cases_lt, lt-ltb, le-ltb}
use Rattle.std.proofs.lemmas.Bool.Decides.{nat_tests}
use Rattle.std.proofs.lemmas.List.Elements.{All-contains}
use Rattle.std.proofs.lemmas.Option.{same_Some, none-some, slice_get_within, get_or_from_slice_get}
use Rattle.std.specs.Prelude.{◌==◌, nat_lt, nat_le, if◌then◌else◌, IfSome, IsNone}
use Rattle.diff_map.specs.Copies.{copied_at, copy_of, MapValue, AreImages, newest}
use Rattle.diff_map.specs.Counts.{IsOldestUsed}
use Rattle.diff_map.specs.Rules.{next_older, renewed, merged as merged_rule, cleared as cleared_rule, gone as gone_rule}
use Rattle.diff_map.specs.declared.copied.Copied.{Copied}
use Rattle.diff_map.proofs.Images.{next_older_is}
use Rattle.diff_area.specs.AreaValue.{AreaValue}
use Rattle.diff_area.specs.Format.{free, is_free, AreRecords}
use Rattle.diff_area.specs.declared.table_record.Record.{Record}
use Rattle.cow_volume.specs.Calls.{sets_in, is_among}
use Rattle.cow_volume.specs.Changes.{merged, merged_row, cleared, cleared_row, gone_on, gone_on_row, gone_row, gone_to, followed}
use Rattle.cow_volume.specs.CopiesAfter.{with_records, after_cut, after_note, after_merge, after_clear, after_gone_on, images_on, after_gone}
use Rattle.cow_volume.specs.Room.{after, all_after, lacks_copy, lacks_slot, is_full, lesser, IsFirstToFree, IsOldestOn, IsRoomMade}
use Rattle.cow_volume.specs.StandsFor.{record_of}
use Rattle.cow_volume.specs.Parts.{CopiesValue, copied_for, images_of, AreOfImages}
use Rattle.cow_volume.proofs.Evicting.{contains_among, among_contains}
use Rattle.cow_volume.proofs.Renewed.{rule-merged, rule-gone, IsRuleOf, followed_is, images_after, get-map}
use Rattle.cow_volume.proofs.Rows.{copied_for-is, get_inside, newest_rest, record_of_row, row_at}
use Rattle.cow_volume.proofs.Ties.{images_at, and_false, some_free, full_only, not_full_if}

-- ## What the calls on copies leave, from what they leave of a volume's map.

-- ## the rules

pub image_above : (images : List ℕ) (set : ℕ) → AreImages images → Contains images set → 0 < set
image_above images set are at = (All-contains (λ image. (0 < image) × (image < 4294967296)) images set are.above_zero at).0

pub merge_rules : (records : List Record) (v set : ℕ) (m : MapValue) → m.copies ≡ map (copied_for v) records → AreImages m.images → Contains m.images set
    → IsRuleOf records v (merged_rule m.copies (next_older m.images set) set) (merged_row records v (next_older m.images set) set)
merge_rules records v set m copies are at =
    subst (λ (cs : List (Option Copied)). IsRuleOf records v (merged_rule cs (next_older m.images set) set) (merged_row records v (next_older m.images set) set)) (sym copies)
    (rule-merged records v (next_older m.images set) set (image_above m.images set are at) (λ n older. image_above m.images n are (next_older_is m.images set n older).1))

pub clear_rules : (records : List Record) (v set : ℕ) (images : List ℕ) → AreImages images → Contains images set → IsRuleOf records v (cleared_rule set) (cleared_row v set)
clear_rules records v set images are at = grind (arith, image_above images set are at)

-- ## what is left

pub same_parts : {D : Type 0} (a b : AreaValue D) (i j : List (List ℕ)) → a ≡ b → i ≡ j → ◌≡◌ {A = CopiesValue D} (record { area = a; images = i }) (record { area = b; images = j })
same_parts a b i j e f = grind arith

on_map : (maps : List MapValue) (v : ℕ) (m : MapValue) → slice_get maps v ≡ Some m → sets_in (slice_get (images_of maps) v) ≡ m.images
on_map maps v m at = ap sets_in (images_at maps v m at)

pub cut_is : {D : Type 0} (area : AreaValue D) (maps : List MapValue) (v set : ℕ) (m n : MapValue) → slice_get maps v ≡ Some m → n.images ≡ m.images ++ set ∷ []
    → ◌≡◌ {A = CopiesValue D} (record { area = area; images = images_of (slice_set maps v n) }) (after_cut (record { area = area; images = images_of maps }) v set)
cut_is area maps v set m n at images = grind (arith, same_parts, images_after, on_map)

pub merge_is : {D : Type 0} (area new : AreaValue D) (maps : List MapValue) (v set : ℕ) (m n : MapValue) → slice_get maps v ≡ Some m → m.copies ≡ map (copied_for v) area.records → AreImages m.images
    → Contains m.images set
    → n ≡ record { blocks = m.blocks; images = filter (λ image. not (image == set)) m.images; copies = renewed (merged_rule m.copies (next_older m.images set) set) m.copies }
    → new ≡ with_records (followed v n.copies area.records) area
    → ◌≡◌ {A = CopiesValue D} (record { area = new; images = images_of (slice_set maps v n) }) (after_merge (record { area = area; images = images_of maps }) v set)
merge_is {D = D} area new maps v set m n at copies are has n_is new_is =
    let on = on_map maps v m at in
    same_parts new (with_records (merged v (next_older (sets_in (slice_get (images_of maps) v)) set) set area.records) area)
    (images_of (slice_set maps v n)) (slice_set (images_of maps) v (filter (λ s. not (s == set)) (sets_in (slice_get (images_of maps) v))))
    (new_is ∙ ap (λ rs. with_records rs area)
    (followed_is area.records v m n (merged_rule m.copies (next_older m.images set) set) (merged_row area.records v (next_older m.images set) set) copies (ap (λ (x : MapValue). x.copies) n_is)
    (merge_rules area.records v set m copies are has))
    ∙ ap (λ (s : List ℕ). with_records (merged v (next_older s set) set area.records) area) (sym on))
    (images_after maps v n ∙ ap (λ s. slice_set (images_of maps) v s) (ap (λ (x : MapValue). x.images) n_is ∙ ap (λ (s : List ℕ). filter (λ image. not (image == set)) s) (sym on)))

pub clear_is : {D : Type 0} (area new : AreaValue D) (maps : List MapValue) (v set : ℕ) (m n : MapValue) → slice_get maps v ≡ Some m → m.copies ≡ map (copied_for v) area.records → AreImages m.images
    → Contains m.images set
    → n ≡ record { blocks = m.blocks; images = filter (λ image. nat_le image set) m.images; copies = renewed (cleared_rule set) m.copies }
    → new ≡ with_records (followed v n.copies area.records) area
    → ◌≡◌ {A = CopiesValue D} (record { area = new; images = images_of (slice_set maps v n) }) (after_clear (record { area = area; images = images_of maps }) v set)
clear_is {D = D} area new maps v set m n at copies are has n_is new_is =
    let on = on_map maps v m at in
    same_parts new (with_records (cleared v set area.records) area)
    (images_of (slice_set maps v n)) (slice_set (images_of maps) v (filter (λ s. nat_le s set) (sets_in (slice_get (images_of maps) v))))
    (new_is ∙ ap (λ rs. with_records rs area)
    (followed_is area.records v m n (cleared_rule set) (cleared_row v set) copies (ap (λ (x : MapValue). x.copies) n_is) (clear_rules area.records v set m.images are has)))
    (images_after maps v n ∙ ap (λ s. slice_set (images_of maps) v s) (ap (λ (x : MapValue). x.images) n_is ∙ ap (λ (s : List ℕ). filter (λ image. nat_le image set) s) (sym on)))

pub gone_is : {D : Type 0} (area new : AreaValue D) (maps : List MapValue) (v up_to : ℕ) (m n : MapValue) → slice_get maps v ≡ Some m → m.copies ≡ map (copied_for v) area.records
    → n ≡ record { blocks = m.blocks; images = filter (λ image. nat_lt up_to image) m.images; copies = renewed (gone_rule up_to) m.copies }
    → new ≡ with_records (followed v n.copies area.records) area
    → ◌≡◌ {A = CopiesValue D} (record { area = new; images = images_of (slice_set maps v n) }) (after_gone_on (record { area = area; images = images_of maps }) v up_to)
gone_is {D = D} area new maps v up_to m n at copies n_is new_is =
    let on = on_map maps v m at in
    same_parts new (with_records (gone_on v up_to area.records) area)
    (images_of (slice_set maps v n)) (slice_set (images_of maps) v (after up_to (sets_in (slice_get (images_of maps) v))))
    (new_is ∙ ap (λ rs. with_records rs area) (followed_is area.records v m n (gone_rule up_to) (gone_on_row v up_to) copies (ap (λ (x : MapValue). x.copies) n_is) (rule-gone area.records v up_to)))
    (images_after maps v n ∙ ap (λ s. slice_set (images_of maps) v s) (ap (λ (x : MapValue). x.images) n_is ∙ ap (after up_to) (sym on)))

pub note_is : {D : Type 0} (area new : AreaValue D) (maps : List MapValue) (v b slot set : ℕ) (m n : MapValue) → slice_get maps v ≡ Some m → n.images ≡ m.images → set ≡ newest m.images
    → new ≡ with_records (slice_set area.records slot (record_of v set b)) area
    → ◌≡◌ {A = CopiesValue D} (record { area = new; images = images_of (slice_set maps v n) }) (after_note (record { area = area; images = images_of maps }) v b slot)
note_is {D = D} area new maps v b slot set m n at images set_is new_is =
    let on = on_map maps v m at in
    same_parts new (with_records (slice_set area.records slot (record_of v (newest (sets_in (slice_get (images_of maps) v))) b)) area)
    (images_of (slice_set maps v n)) (images_of maps)
    (new_is ∙ ap (λ (k : ℕ). with_records (slice_set area.records slot (record_of v k b)) area) (set_is ∙ ap newest (sym on)))
    (images_after maps v n ∙ ap (λ s. slice_set (images_of maps) v s) images ∙ set-same-value (images_of maps) v m.images (images_at maps v m at)) where
      set-same-value : (xs : List (List ℕ)) (i : ℕ) (x : List ℕ) → slice_get xs i ≡ Some x → slice_set xs i x ≡ xs
      set-same-value [] i x h = refl
      set-same-value (y ∷ ys) zero x h = ap (λ z. z ∷ ys) (sym (same_Some y x h))
      set-same-value (y ∷ ys) (suc i) x h = ap (λ zs. y ∷ zs) (set-same-value ys i x h)

-- ## Images go up to a set so that a write has its slot.

-- ## what stays

-- what is not of a set up to k stays
map_stays : {X : Type 0} (f : X → X) (xs : List X) → ((i : ℕ) (x : X) → slice_get xs i ≡ Some x → f x ≡ x) → map f xs ≡ xs
map_stays f [] same = refl
map_stays f (x ∷ xs) same = ap (λ y. y ∷ map f xs) (same zero x refl) ∙ ap (λ ys. x ∷ ys) (map_stays f xs (λ i y at. same (suc i) y at))

row_stays : (k : ℕ) (r : Record) → (r.set ≡ 0 → r ≡ free) → (0 < r.set → k < r.set) → gone_row k r ≡ r
row_stays k r none some = grind arith

free_where : (volumes : List ℕ) (records : List Record) (slot : ℕ) (r : Record) → AreRecords volumes records → slice_get records slot ≡ Some r → r.set ≡ 0 → r ≡ free
free_where volumes records slot r are at none = by_test (is_free r) refl where
  by_test : (t : Bool) → is_free r ≡ t → r ≡ free
  by_test true e =
      let a : r.set ≡ 0 = grind (arith, nat_tests) in
      let b : r.block ≡ 0 = grind (arith, nat_tests) in
      let w : r.volume ≡ 0 = grind (arith, nat_tests) in
      grind arith
  by_test false e =
      let used = are.each slot r at (λ same. false≢true (sym e ∙ ap is_free same)) in
      let some = used.set in
      absurd (omega arith)

pub gone_to_stays : (volumes : List ℕ) (records : List Record) (k : ℕ) → AreRecords volumes records → ((slot : ℕ) (r : Record) → slice_get records slot ≡ Some r → 0 < r.set → k < r.set)
    → gone_to k records ≡ records
gone_to_stays volumes records k are above = map_stays (gone_row k) records (λ slot r at. row_stays k r (free_where volumes records slot r are at) (above slot r at))

filter_stays : (k : ℕ) (sets : List ℕ) → ((s : ℕ) → is_among s sets ≡ true → k < s) → after k sets ≡ sets
filter_stays k [] above = refl
filter_stays k (s ∷ sets) above =
    let up = above s (among_contains s (s ∷ sets) (0, omega arith, refl)) in
    ap (λ (t : Bool). if t then s ∷ filter (λ x. nat_lt k x) sets else filter (λ x. nat_lt k x) sets) (lt-ltb k s up)
    ∙ ap (λ xs. s ∷ xs) (filter_stays k sets (λ x among. above x (later x s sets among)))
  where
    later : (x s : ℕ) (sets : List ℕ) → is_among x sets ≡ true → is_among x (s ∷ sets) ≡ true
    later x s sets h = or_true (s == x) (is_among x sets) h where
      or_true : (a b : Bool) → b ≡ true → (a || b) ≡ true
      or_true true b e = refl
      or_true false b e = e

pub all_after_stays : (images : List (List ℕ)) (k : ℕ) → ((u s : ℕ) (sets : List ℕ) → slice_get images u ≡ Some sets → is_among s sets ≡ true → k < s) → all_after k images ≡ images
all_after_stays images k above = map_stays (after k) images (λ u sets at. filter_stays k sets (λ s among. above u s sets at among))

-- nothing goes up to 0
pub gone_nothing : {D : Type 0} (c : CopiesValue D) → AreRecords c.area.volumes c.area.records → AreOfImages c.area.records c.images → c ≡ after_gone c 0
gone_nothing c are of = same_parts c.area (with_records (gone_to 0 c.area.records) c.area) c.images (all_after 0 c.images)
    (ap (λ rs. with_records rs c.area) (sym (gone_to_stays c.area.volumes c.area.records 0 are (λ slot r at some. some))))
    (sym (all_after_stays c.images 0 (λ u s sets at among. (All-contains (λ image. (0 < image) × (image < 4294967296)) sets s (of.sets u sets at).above_zero (contains_among s sets among)).0)))

-- nothing goes where nothing has to
pub room_there : {D : Type 0} (c : CopiesValue D) (v b : ℕ) → AreRecords c.area.volumes c.area.records → AreOfImages c.area.records c.images → lacks_slot c.area.records v (images_on c v) b ≡ false
    → IsRoomMade c.area.records c.images v b 0
room_there c v b are of has = grind (arith, gone_nothing)

-- ## the first set that frees a slot

pub sets_after : (k v : ℕ) (images : List (List ℕ)) → sets_in (slice_get (all_after k images) v) ≡ after k (sets_in (slice_get images v))
sets_after k v [] = refl
sets_after k zero (sets ∷ images) = refl
sets_after k (suc v) (sets ∷ images) = sets_after k v images

drop_head : (records : List Record) (v b s : ℕ) (sets : List ℕ) → 0 < length sets → lacks_copy records v (s ∷ sets) b ≡ lacks_copy records v sets b
drop_head records v b s sets some = grind arith

-- before the newest image goes, it lacks what it lacked
pub keeps_newest : (records : List Record) (v b k : ℕ) (sets : List ℕ) → k < newest sets → (0 < length (after k sets)) × (lacks_copy records v (after k sets) b ≡ lacks_copy records v sets b)
keeps_newest records v b k [] low = absurd (omega arith)
keeps_newest records v b k (s ∷ []) low =
    let stays : after k (s ∷ []) ≡ s ∷ [] = ap (λ (t : Bool). if t then s ∷ [] else []) (lt-ltb k s low) in
    (subst (λ (xs : List ℕ). 0 < length xs) (sym stays) (omega arith), ap (λ (xs : List ℕ). lacks_copy records v xs b) stays)
keeps_newest records v b k (s ∷ t ∷ rest) low = by_test (nat_lt k s) refl (keeps_newest records v b k (t ∷ rest) (subst (λ (n : ℕ). k < n) (newest_rest s t rest) low)) where
  by_test : (x : Bool) → nat_lt k s ≡ x → (0 < length (after k (t ∷ rest))) × (lacks_copy records v (after k (t ∷ rest)) b ≡ lacks_copy records v (t ∷ rest) b)
      → (0 < length (after k (s ∷ t ∷ rest))) × (lacks_copy records v (after k (s ∷ t ∷ rest)) b ≡ lacks_copy records v (s ∷ t ∷ rest) b)
  by_test true e more =
      let is : after k (s ∷ t ∷ rest) ≡ s ∷ after k (t ∷ rest) = ap (λ (x : Bool). if x then s ∷ after k (t ∷ rest) else after k (t ∷ rest)) e in
      (subst (λ (xs : List ℕ). 0 < length xs) (sym is) (omega arith), ap (λ (xs : List ℕ). lacks_copy records v xs b) is ∙ drop_head records v b s (after k (t ∷ rest)) more.0 ∙ more.1)
  by_test false e more =
      let is : after k (s ∷ t ∷ rest) ≡ after k (t ∷ rest) = ap (λ (x : Bool). if x then s ∷ after k (t ∷ rest) else after k (t ∷ rest)) e in
      (subst (λ (xs : List ℕ). 0 < length xs) (sym is) more.0, ap (λ (xs : List ℕ). lacks_copy records v xs b) is ∙ more.1)

-- all go up to the newest
pub none_after : (k : ℕ) (sets : List ℕ) → ((i s : ℕ) → slice_get sets i ≡ Some s → s ≤ k) → after k sets ≡ []
none_after k [] low = refl
none_after k (s ∷ sets) low = ap (λ (t : Bool). if t then s ∷ after k sets else after k sets) (le-ltb k s (low zero s refl)) ∙ none_after k sets (λ i x at. low (suc i) x at)

pub newest_most : (sets : List ℕ) (i s : ℕ) → AreImages sets → slice_get sets i ≡ Some s → s ≤ newest sets
newest_most sets i s are at = grind (arith, slice_get_within, get_or_from_slice_get, cases_lt)

not_full : (records : List Record) (slot k : ℕ) (r : Record) → slice_get records slot ≡ Some r → r.set ≡ k → is_full (gone_to k records) ≡ false
not_full records slot k r at same =
    let row : slice_get (gone_to k records) slot ≡ Some free = get-map (gone_row k) records slot r at ∙ ap (λ (x : Record). Some x) (grind arith) in
    let some = some_free (map is_free (gone_to k records)) slot (get-map is_free (gone_to k records) slot free row) in
    not_full_if (gone_to k records) _ refl (λ none. absurd (omega arith))

-- up to that set the images have to go, and no further
pub room_made_by : {D : Type 0} (c : CopiesValue D) (v b up_to : ℕ) → AreRecords c.area.volumes c.area.records → length c.images ≡ length c.area.volumes → AreOfImages c.area.records c.images
    → v < length c.area.volumes
    → lacks_slot c.area.records v (images_on c v) b ≡ true → IsFirstToFree c.area.records (images_on c v) up_to → IsRoomMade c.area.records c.images v b up_to
room_made_by c v b up_to are long of within lacks first = record {
  enough = elim first.one [
    | inl newest_is ↦
        let at = get_inside c.images v (omega arith) in
        let on : images_on c v ≡ at.0 = ap sets_in at.1 in
        let none : after up_to (images_on c v) ≡ [] = none_after up_to (images_on c v)
        (λ i s there. let most = newest_most (images_on c v) i s (subst AreImages (sym on) (of.sets v at.0 at.1)) there in omega arith) in
        ap (λ (sets : List ℕ). lacks_slot (gone_to up_to c.area.records) v sets b) (sets_after up_to v c.images ∙ none)
    | inr at ↦ sym (and_false (lacks_copy (gone_to up_to c.area.records) v (sets_in (slice_get (all_after up_to c.images) v)) b) (is_full (gone_to up_to c.area.records))
        (not_full c.area.records at.0 up_to at.1 at.2 at.3))
  ];
  needed = λ fewer low.
      let most = first.most in
      ap (λ (rs : List Record). lacks_slot rs v (sets_in (slice_get (all_after fewer c.images) v)) b)
      (gone_to_stays c.area.volumes c.area.records fewer are (λ slot r at some. let least = first.least slot r at in omega arith))
      ∙ ap (λ (sets : List ℕ). lacks_slot c.area.records v sets b) (sets_after fewer v c.images)
      ∙ ap (λ (t : Bool). t && is_full c.area.records) (keeps_newest c.area.records v b fewer (images_on c v) (omega arith)).1
      ∙ lacks;
}

-- ## the walk for it

-- the least set of the copies on the volumes so far, or the newest image's where that is less
pub record IsLeastSoFar (records : List Record) (sets : List ℕ) (up_to u : ℕ) : Type 0 where
  pub most : up_to ≤ newest sets
  pub least : (j : ℕ) (r : Record) → slice_get records j ≡ Some r → 0 < r.set → r.volume < u → up_to ≤ r.set
  pub one : (up_to ≡ newest sets) ⊎ ((j : ℕ) × (r : Record) × (slice_get records j ≡ Some r) × (r.set ≡ up_to))

pub first_none : (records : List Record) (sets : List ℕ) (n : ℕ) → n ≡ newest sets → IsLeastSoFar records sets n 0
first_none records sets n is = grind arith

pub lesser_of : (set other : ℕ) → ((other < set) × (lesser set (Some other) ≡ other)) ⊎ ((set ≤ other) × (lesser set (Some other) ≡ set))
lesser_of set other = grind arith

-- one volume more
pub first_more : (records : List Record) (sets : List ℕ) (least u : ℕ) (o : Option ℕ) → IsLeastSoFar records sets least u → IsOldestOn records u o → IsLeastSoFar records sets (lesser least o) (u + 1)
first_more records sets least u o so_far none = grind arith

-- where all slots are used, each record is of a volume
full_used : (records : List Record) (slot : ℕ) (r : Record) → is_full records ≡ true → slice_get records slot ≡ Some r → r ≢ free
full_used records slot r full at is =
    let none = full_only records full in
    let some = some_free (map is_free records) slot (get-map is_free records slot r at ∙ ap (λ (x : Record). Some (is_free x)) is) in
    absurd (omega arith)

pub first_all : (volumes : List ℕ) (records : List Record) (sets : List ℕ) (least u : ℕ) → AreRecords volumes records → is_full records ≡ true → IsLeastSoFar records sets least u → length volumes ≤ u
    → IsFirstToFree records sets least
first_all volumes records sets least u are full so_far whole = record {
  most = so_far.most;
  least = λ j r at. let used = are.each j r at (full_used records j r full at) in let inside = used.volume in so_far.least j r at used.set (omega arith);
  one = so_far.one;
}

-- ## the oldest image of a volume that has a copy

pub oldest_on : (o : Option ℕ) (copies : List (Option Copied)) (records : List Record) (v : ℕ) → copies ≡ map (copied_for v) records → IfSome o (IsOldestUsed copies)
    → (IsNone o → (slot : ℕ) → copied_at copies slot ≡ None) → IsOldestOn records v o
oldest_on None copies records v is found none = λ slot r at same some. none-some (copy_of r.set r.block)
    (sym (none refl slot) ∙ ap (λ (cs : List (Option Copied)). copied_at cs slot) is ∙ row_at v records slot r at ∙ copied_for-is v r some same)
oldest_on (Some set) copies records v is found none =
    let row = record_of_row v records found.slot (copy_of set found.block) (ap (λ (cs : List (Option Copied)). copied_at cs found.slot) (sym is) ∙ found.row) in
    record {
      slot = found.slot;
      block = found.block;
      row = row.1;
      oldest = λ other r at same some. found.oldest other (copy_of r.set r.block)
          (ap (λ (cs : List (Option Copied)). copied_at cs other) is ∙ row_at v records other r at ∙ copied_for-is v r some same);
    }
