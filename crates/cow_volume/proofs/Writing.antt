-- What an effective write leaves of the history that a volume stands for, with the copy of the old block where one is
-- needed.
use Rattle.std.proofs.Common.{◌≡◌, ◌≢◌, ℕ, zero, suc, ◌+◌, ◌-◌, ◌<◌, ◌≤◌, List, [], ◌∷◌, ◌++◌, length, drop, refl, ap, sym, ◌∙◌, arith, Bool, true, false, ◌||◌, Option, Some, None, subst, inl}
use Rattle.std.proofs.Common.{inr}
use Rattle.std.specs.Prelude.{◌⊎◌, slice_get, slice_set, slice_index, slice_range, ◌==◌, not, if◌then◌else◌, IfSome, is_some, map, option_map}
use Rattle.std.specs.List.{range_with_len}
use Rattle.std.proofs.lemmas.Option.{same_Some, slice_get_within}
use Rattle.std.proofs.lemmas.List.{take-append-le, drop-append-le, length-drop, length_push, length-map}
use Rattle.std.proofs.lemmas.List.Folds.{list_any-append}
use Rattle.std.proofs.lemmas.Bool.{or_cases}
use Rattle.block_data.specs.BlockBytes.{zeros}
use Rattle.write_history.specs.History.{Write, Image, History, last_bytes, content, contents, point_in, names, sets_of, written, AreLater, AreInTime}
use Rattle.write_history.specs.Slots.{writes_since, needs_slot, needs_slot_in}
use Rattle.volume_device.specs.InMemory.{AreBlocks}
use Rattle.diff_map.specs.Copies.{newest}
use Rattle.diff_area.specs.Format.{table_for, blocks_for, place_of_slot, free}
use Rattle.diff_area.specs.declared.table_record.Record.{Record}
use Rattle.cow_volume.specs.StandsFor.{AreImages, is_named, record_of, told_in, IsVolume, StandsFor, GroupValue}
use Rattle.cow_volume.specs.Changes.{noted}
use Rattle.cow_volume.specs.Calls.{history_at, changed_at, blocks_at, sets_at}
use Rattle.cow_volume.proofs.Group.{slice_get-set_same, slice_get-set_other, length-slice_set, slice_get_inside, same_number, other_number, number_is, number_is_other, set_above, named_point}
use Rattle.cow_volume.proofs.Group.{named_above, OthersKept, SlotsKept, slice_set-same, slice_get_map, others_same, slots_same, told_in-if, told_in-map, told_in-slots, on_one}
use Rattle.cow_volume.proofs.Reading.{last_bytes-append, content_all, point_within, later_set, named_first, named_rest, unnamed_to_end, now, place_of_block, one_told}

-- ## one more write

-- two functions that agree there
range-same : {X : Type 0} → (f g : ℕ → X) (a n : ℕ) → ((j : ℕ) → a ≤ j → j < a + n → g j ≡ f j) → map g (range_with_len a n) ≡ map f (range_with_len a n)
range-same f g a zero h = refl
range-same f g a (suc n) h = let here : g a ≡ f a = h a (omega arith) (omega arith) in
    ap (λ x. x ∷ map g (range_with_len (a + 1) n)) here ∙ ap (λ xs. f a ∷ xs) (range-same f g (a + 1) n (λ j l m. h j (omega arith) (omega arith)))

-- two functions that agree but at one place
range-set : {X : Type 0} → (f g : ℕ → X) (a n i : ℕ) (y : X) → i < n → g (a + i) ≡ y → ((j : ℕ) → j ≢ a + i → g j ≡ f j) → map g (range_with_len a n) ≡ slice_set (map f (range_with_len a n)) i y
range-set f g a zero i y l at h = absurd (omega arith)
range-set f g a (suc n) zero y l at h =
    let e : a ≡ a + 0 = omega arith in
    ap (λ x. x ∷ map g (range_with_len (a + 1) n)) (ap g e ∙ at) ∙ ap (λ xs. y ∷ xs) (range-same f g (a + 1) n (λ j m k. h j (λ is. absurd (omega arith))))
range-set f g a (suc n) (suc i) y l at h =
    let e : a + 1 + i ≡ a + suc i = omega arith in
    let here : g a ≡ f a = h a (λ is. absurd (omega arith)) in
    ap (λ x. x ∷ map g (range_with_len (a + 1) n)) here
    ∙ ap (λ xs. f a ∷ xs) (range-set f g (a + 1) n i y (omega arith) (ap g e ∙ at) (λ j m. h j (λ is. m (is ∙ sym e))))

pub content-more : (ws : List Write) (w : Write) (b : ℕ) → content (ws ++ w ∷ []) (length (ws ++ w ∷ [])) b ≡ (if w.block == b then w.bytes else content ws (length ws) b)
content-more ws w b = grind (arith, content_all, last_bytes-append)

pub contents-more : (n : ℕ) (ws : List Write) (w : Write) → w.block < n → contents n (ws ++ w ∷ []) (length (ws ++ w ∷ [])) ≡ slice_set (contents n ws (length ws)) w.block w.bytes
contents-more n ws w l = grind (arith, range-set, content-more, number_is, number_is_other)

-- what stood at a point stays
pub content-before : (ws more : List Write) (p b : ℕ) → p ≤ length ws → content (ws ++ more) p b ≡ content ws p b
content-before ws more p b l = ap (last_bytes b zeros) (take-append-le p ws more l)

-- what is named since a point
pub since-more : (ws more : List Write) (p b : ℕ) → p ≤ length ws → names (drop p (ws ++ more)) b ≡ (names (drop p ws) b || names more b)
since-more ws more p b l = ap (λ since. names since b) (drop-append-le p ws more l) ∙ list_any-append (λ v. v.block == b) (drop p ws) more

names-more : (ws : List Write) (w : Write) (p b : ℕ) → p ≤ length ws → names (drop p (ws ++ w ∷ [])) b ≡ (names (drop p ws) b || (w.block == b))
names-more ws w p b l = grind (arith, since-more)

-- between two points nothing changes
pub range-more : (ws more : List Write) (p q : ℕ) → p ≤ q → q ≤ length ws → slice_range (ws ++ more) p q ≡ slice_range ws p q
range-more ws more p q from to = grind (arith, length-drop, drop-append-le, take-append-le)

pub in_time-more : (k l : ℕ) (images : List Image) → k ≤ l → AreInTime k images → AreInTime l images
in_time-more k l [] more time = tt
in_time-more k l (i ∷ images) more time = let here = time.0 in (omega arith, time.1, in_time-more k l images more time.2)

pub images-more : (ws : List Write) (w : Write) (images : List Image) → AreImages (length ws) images → AreImages (length (ws ++ w ∷ [])) images
images-more ws w images are = grind (arith, in_time-more, length_push)

-- ## the newest image

-- the last of the sets
abbrev pub IsNewest : List ℕ → ℕ → Type 0
IsNewest [] m = ⊥
IsNewest (set ∷ []) m = set ≡ m
IsNewest (set ∷ next ∷ sets) m = IsNewest (next ∷ sets) m

-- the newest of a map is that
pub newest_is : (sets : List ℕ) → 0 < length sets → IsNewest sets (newest sets)
newest_is [] some = absurd (omega arith)
newest_is (set ∷ []) some = refl
newest_is (set ∷ next ∷ sets) some =
    let long : length (set ∷ next ∷ sets) - 1 ≡ suc (length sets) = omega arith in
    let rest : length (next ∷ sets) - 1 ≡ length sets = omega arith in
    let same : newest (next ∷ sets) ≡ newest (set ∷ next ∷ sets) = ap (slice_index (next ∷ sets)) rest ∙ sym (ap (slice_index (set ∷ next ∷ sets)) long) in
    subst (IsNewest (next ∷ sets)) same (newest_is (next ∷ sets) (omega arith))

newest_point_if : (t : Bool) (q : ℕ) (o : Option ℕ) → (p : ℕ) × (o ≡ Some p) → (p : ℕ) × ((if t then Some q else o) ≡ Some p)
newest_point_if true q o found = (q, refl)
newest_point_if false q o found = found

pub newest_point : (images : List Image) (m : ℕ) → IsNewest (sets_of images) m → (p : ℕ) × (point_in m images ≡ Some p)
newest_point [] m last = absurd last
newest_point (i ∷ []) m last = (i.point, ap (λ (t : Bool). if t then Some i.point else None) (subst (λ k. (i.set == k) ≡ true) last (number_is i.set)))
newest_point (i ∷ j ∷ images) m last = newest_point_if (i.set == m) i.point (point_in m (j ∷ images)) (newest_point (j ∷ images) m last)

later_newest : (i : Image) (images : List Image) (m : ℕ) → AreLater i images → IsNewest (sets_of images) m → i.set < m
later_newest i images m later last = let found = newest_point images m last in later_set i images m found.0 later found.1

-- no image is newer
newest_most_if : (t : Bool) (set m p : ℕ) (i : Image) (o : Option ℕ) → (i.set == set) ≡ t → i.set ≤ m → (o ≡ Some p → set ≤ m) → (if t then Some i.point else o) ≡ Some p → set ≤ m
newest_most_if t set m p i o e l rest at = grind arith

pub newest_most : (k : ℕ) (images : List Image) (m set p : ℕ) → AreInTime k images → IsNewest (sets_of images) m → point_in set images ≡ Some p → set ≤ m
newest_most k [] m set p time last at = cc
newest_most k (i ∷ []) m set p time last at = newest_most_if (i.set == set) set m p i None refl (omega arith) (λ none. cc) at
newest_most k (i ∷ j ∷ images) m set p time last at =
    let later = later_newest i (j ∷ images) m time.1 last in
    newest_most_if (i.set == set) set m p i (point_in set (j ∷ images)) refl (omega arith) (newest_most k (j ∷ images) m set p time.2 last) at

-- a write needs a slot just where the newest image does not name its block
pub needs_named : (k : ℕ) (ws : List Write) (images : List Image) (m b : ℕ) → AreInTime k images → IsNewest (sets_of images) m → needs_slot ws images b ≡ not (is_named ws images m b)
needs_named k ws [] m b time last = absurd last
needs_named k ws (i ∷ []) m b time last = ap not (sym (named_first ws i [] b)) ∙ ap (λ (set : ℕ). not (is_named ws (i ∷ []) set b)) last
needs_named k ws (i ∷ j ∷ images) m b time last =
    let later = later_newest i (j ∷ images) m time.1 last in
    needs_named k ws (j ∷ images) m b time.2 last ∙ ap not (sym (named_rest ws i (j ∷ images) m b (λ e. absurd (omega arith))))

-- ## when a write needs a slot

-- the newest image has no copy of the block
pub record IsNeeded (records : List Record) (v : ℕ) (sets : List ℕ) (b : ℕ) : Type 0 where
  pub set : ℕ
  pub newest_is : IsNewest sets set
  pub unnoted : (slot : ℕ) → slice_get records slot ≡ Some (record_of v set b) → ⊥

not_true : (t : Bool) → (t ≡ true → ⊥) → not t ≡ true
not_true t h = grind arith

some_newest : (sets : List ℕ) → (sets ≡ [] → ⊥) → (m : ℕ) × IsNewest sets m
some_newest [] some = absurd (some refl)
some_newest (set ∷ sets) some = (newest (set ∷ sets), newest_is (set ∷ sets) (omega arith))

pub no_image : (ws : List Write) (images : List Image) (b : ℕ) → sets_of images ≡ [] → needs_slot ws images b ≡ false
no_image ws [] b none = refl
no_image ws (i ∷ images) b none = cc

-- where no image stands no slot is needed
pub needs_none : (told slots : Option (List (List ℕ))) (records : List Record) (v n : ℕ) (h : History) (b : ℕ) → IsVolume told slots records v n [] h → needs_slot h.writes h.images b ≡ false
needs_none told slots records v n h b volume = no_image h.writes h.images b (sym volume.sets_are)

-- where the newest image has a copy of the block no slot is needed
pub needs_not : (told slots : Option (List (List ℕ))) (records : List Record) (v n : ℕ) (sets : List ℕ) (h : History) (m b slot : ℕ) → IsVolume told slots records v n sets h → IsNewest sets m
    → slice_get records slot ≡ Some (record_of v m b) → needs_slot h.writes h.images b ≡ false
needs_not told slots records v n sets h m b slot volume last at =
    let stands = newest_point h.images m (subst (λ (ss : List ℕ). IsNewest ss m) volume.sets_are last) in
    (grind (arith, needs_named)) ∙ ap not (volume.named slot m b (set_above m stands.0 h.images volume.images.above_zero stands.1) at)

-- where it has none a slot is needed
pub needs : (told slots : Option (List (List ℕ))) (records : List Record) (v n : ℕ) (sets : List ℕ) (h : History) (b : ℕ) → IsVolume told slots records v n sets h → b < n
    → IsNeeded records v sets b → needs_slot h.writes h.images b ≡ true
needs told slots records v n sets h b volume l needed =
    grind (arith, needs_named, needed.newest_is)
    ∙ not_true (is_named h.writes h.images needed.set b) (λ is. let found = volume.recorded needed.set b l is in needed.unnoted found.0 found.1)

-- where a slot is needed an image stands, and the newest has no copy of the block
pub is_needed : (told slots : Option (List (List ℕ))) (records : List Record) (v n : ℕ) (sets : List ℕ) (h : History) (b : ℕ) → IsVolume told slots records v n sets h
    → needs_slot h.writes h.images b ≡ true → IsNeeded records v sets b
is_needed told slots records v n sets h b volume need =
    let last = some_newest sets (λ none. let free = no_image h.writes h.images b (sym volume.sets_are ∙ none) in absurd (true_not_false (sym need ∙ free))) in
    record {
      set = last.0;
      newest_is = last.1;
      unnoted = λ slot at. true_not_false (sym need ∙ needs_not told slots records v n sets h last.0 b slot volume last.1 at);
    } where
      true_not_false : true ≡ false → ⊥
      true_not_false e = cc

-- ## what the images name after a write

named-since : (ws : List Write) (w : Write) (i : Image) (newer : List Image) (b : ℕ) → AreInTime (length ws) (i ∷ newer) → names (writes_since ws i.point newer) b ≡ true
    → names (writes_since (ws ++ w ∷ []) i.point newer) b ≡ true
named-since ws w i newer b time is = grind (arith, names-more, range-more)

-- what was named is
pub named-more : (ws : List Write) (w : Write) (images : List Image) (set b : ℕ) → AreInTime (length ws) images → is_named ws images set b ≡ true → is_named (ws ++ w ∷ []) images set b ≡ true
named-more ws w [] set b time is = cc
named-more ws w (i ∷ newer) set b time is = grind (arith, named-since ws w i newer b time, named-more ws w newer set b time.2)

-- what is named was, or is the written block for the newest image
named_was_if : (t : Bool) (ws : List Write) (w : Write) (i : Image) (newer : List Image) (set b : ℕ) → (i.set == set) ≡ t → AreInTime (length ws) (i ∷ newer)
    → (is_named (ws ++ w ∷ []) newer set b ≡ true → (is_named ws newer set b ≡ true) ⊎ (IsNewest (sets_of newer) set × (w.block ≡ b)))
    → (if t then names (writes_since (ws ++ w ∷ []) i.point newer) b else is_named (ws ++ w ∷ []) newer set b) ≡ true
    → ((if t then names (writes_since ws i.point newer) b else is_named ws newer set b) ≡ true) ⊎ (IsNewest (sets_of (i ∷ newer)) set × (w.block ≡ b))
named_was_if true ws w i [] set b e time rest is = here (or_cases (names (drop i.point ws) b) (w.block == b) (sym (names-more ws w i.point b time.0) ∙ is)) where
  here : (names (drop i.point ws) b ≡ true) ⊎ ((w.block == b) ≡ true) → (names (drop i.point ws) b ≡ true) ⊎ ((i.set ≡ set) × (w.block ≡ b))
  here (inl was) = inl was
  here (inr now) = inr (same_number i.set set e, same_number w.block b now)
named_was_if true ws w i (j ∷ newer) set b e time rest is = inl (sym (ap (λ (since : List Write). names since b) (range-more ws (w ∷ []) i.point j.point time.1.1 time.2.0)) ∙ is)
named_was_if false ws w i [] set b e time rest is = cc
named_was_if false ws w i (j ∷ newer) set b e time rest is = rest is

pub named_was : (ws : List Write) (w : Write) (images : List Image) (set b : ℕ) → AreInTime (length ws) images → is_named (ws ++ w ∷ []) images set b ≡ true
    → (is_named ws images set b ≡ true) ⊎ (IsNewest (sets_of images) set × (w.block ≡ b))
named_was ws w [] set b time is = cc
named_was ws w (i ∷ newer) set b time is = named_was_if (i.set == set) ws w i newer set b refl time (named_was ws w newer set b time.2) is

-- the newest image names the written block
pub named_now : (ws : List Write) (w : Write) (images : List Image) (m : ℕ) → AreInTime (length ws) images → IsNewest (sets_of images) m → is_named (ws ++ w ∷ []) images m w.block ≡ true
named_now ws w [] m time last = absurd last
named_now ws w (i ∷ []) m time last =
    ap (λ (set : ℕ). is_named (ws ++ w ∷ []) (i ∷ []) set w.block) (sym last) ∙ named_first (ws ++ w ∷ []) i [] w.block ∙ names-more ws w i.point w.block time.0
    ∙ or_true (names (drop i.point ws) w.block) (w.block == w.block) (number_is w.block) where
      or_true : (x t : Bool) → t ≡ true → (x || t) ≡ true
      or_true true t e = refl
      or_true false t e = e
named_now ws w (i ∷ j ∷ newer) m time last =
    let later = later_newest i (j ∷ newer) m time.1 last in
    named_rest (ws ++ w ∷ []) i (j ∷ newer) m w.block (λ e. absurd (omega arith)) ∙ named_now ws w (j ∷ newer) m time.2 last

-- ## what is told

-- a block gets the bytes of a write, where it is told
pub put_told : (n : ℕ) (ws : List Write) (w : Write) (told : Option (List (List ℕ))) (bytes : List ℕ) → w.block < n → (is_some told ≡ true → bytes ≡ w.bytes)
    → IfSome told (λ blocks. blocks ≡ contents n ws (length ws))
    → IfSome (option_map (λ blocks. slice_set blocks w.block bytes) told) (λ blocks. blocks ≡ contents n (ws ++ w ∷ []) (length (ws ++ w ∷ [])))
put_told n ws w told bytes l known held = grind (arith, contents-more)

pub put_tells : (told : Option (List (List ℕ))) (k : ℕ) (bytes : List ℕ) → is_some (option_map (λ blocks. slice_set blocks k bytes) told) ≡ is_some told
put_tells told k bytes = grind arith

-- a block of a device is set: that block
put_same : (told : Option (List (List ℕ))) (k : ℕ) (bytes : List ℕ) → IfSome told (λ blocks. k < length blocks)
    → IfSome (option_map (λ blocks. slice_set blocks k bytes) told) (λ blocks. slice_get blocks k ≡ Some bytes)
put_same None k bytes within = tt
put_same (Some blocks) k bytes within = let found = slice_get_inside blocks k within in slice_get-set_same blocks k found.0 bytes found.1

-- a block of a device is set: each other block
put_other : (told : Option (List (List ℕ))) (k j : ℕ) (bytes : List ℕ) (x : Option (List ℕ)) → k ≢ j → IfSome told (λ blocks. slice_get blocks j ≡ x)
    → IfSome (option_map (λ blocks. slice_set blocks k bytes) told) (λ blocks. slice_get blocks j ≡ x)
put_other told k j bytes x other held = grind (arith, slice_get-set_other)

-- ## slots

other_place : (a s slot : ℕ) → s ≢ slot → a + slot ≢ a + s
other_place a s slot other = λ e. other (omega arith)

-- a slot with a record of a set above 0 is not free
pub not_free : (records : List Record) (slot s u set b : ℕ) → slice_get records slot ≡ Some free → slice_get records s ≡ Some (record_of u set b) → 0 < set → s ≢ slot
not_free records slot s u set b is_free at above = grind arith

-- a record is noted in a free slot: the records of the other volumes stay
pub others_noted : (records : List Record) (v m b slot : ℕ) → slice_get records slot ≡ Some free → OthersKept v records (noted slot (record_of v m b) records)
others_noted records v m b slot is_free = grind (arith, length-slice_set, slice_get-set_other, not_free, same_number, slice_get-set_same, same_Some, other_number)

-- the block of a free slot is set: the other volumes' slots hold what they held
pub others_overwritten : (records : List Record) (v slot : ℕ) (slots : Option (List (List ℕ))) (bytes : List ℕ) → slice_get records slot ≡ Some free
    → SlotsKept v records slots (option_map (λ blocks. slice_set blocks (place_of_slot (length records) slot) bytes) slots)
others_overwritten records v slot slots bytes is_free = record {
  tells = λ is. sym (put_tells slots (place_of_slot (length records) slot) bytes) ∙ is;
  held = λ u s set b held other above at was.
      put_other slots (place_of_slot (length records) slot) (place_of_slot (length records) s) bytes (Some held)
      (other_place (table_for (length records)) s slot (not_free records slot s u set b is_free at above)) was;
}

-- the block of a free slot is set: a volume stands for what it stood for
pub slot_overwritten : (told slots : Option (List (List ℕ))) (records : List Record) (v n : ℕ) (sets : List ℕ) (h : History) (slot : ℕ) (bytes : List ℕ) → IsVolume told slots records v n sets h
    → slice_get records slot ≡ Some free → IsVolume told (option_map (λ blocks. slice_set blocks (place_of_slot (length records) slot) bytes) slots) records v n sets h
slot_overwritten told slots records v n sets h slot bytes volume is_free = record {
  blocks = volume.blocks;
  sets_are = volume.sets_are;
  images = volume.images;
  named = volume.named;
  recorded = volume.recorded;
  copied = λ s set b p at point tells.
      put_other slots (place_of_slot (length records) slot) (place_of_slot (length records) s) bytes (Some (content h.writes p b))
      (other_place (table_for (length records)) s slot (not_free records slot s v set b is_free at (set_above set p h.images volume.images.above_zero point)))
      (volume.copied s set b p at point tells);
}

-- ## a block that is named since the newest cut is written

pub written_again : (told slots : Option (List (List ℕ))) (records : List Record) (v n : ℕ) (sets : List ℕ) (h : History) (w : Write) → IsVolume told slots records v n sets h → w.block < n
    → needs_slot h.writes h.images w.block ≡ false → IsVolume (option_map (λ blocks. slice_set blocks w.block w.bytes) told) slots records v n sets (written w h)
written_again told slots records v n sets h w volume l need = record {
  blocks = put_told n h.writes w told w.bytes l (λ tells. refl) volume.blocks;
  sets_are = volume.sets_are;
  images = images-more h.writes w h.images volume.images;
  named = λ s set b above at. named-more h.writes w h.images set b volume.images.in_time (volume.named s set b above at);
  recorded = λ set b within is. volume.recorded set b within (was set b (named_was h.writes w h.images set b volume.images.in_time is));
  copied = λ s set b p at point tells.
      subst (λ (bytes : List ℕ). IfSome slots (λ blocks. slice_get blocks (place_of_slot (length records) s) ≡ Some bytes))
      (sym (content-before h.writes (w ∷ []) p b (point_within (length h.writes) set p h.images volume.images.in_time point)))
      (volume.copied s set b p at point (sym (put_tells told w.block w.bytes) ∙ tells));
} where
  not_false : (t : Bool) → not t ≡ false → t ≡ true
  not_false true e = refl
  not_false false e = cc

  was : (set b : ℕ) → (is_named h.writes h.images set b ≡ true) ⊎ (IsNewest (sets_of h.images) set × (w.block ≡ b)) → is_named h.writes h.images set b ≡ true
  was set b (inl is) = is
  was set b (inr last) = ap (is_named h.writes h.images set) (sym last.1)
      ∙ not_false (is_named h.writes h.images set w.block) (sym (needs_named (length h.writes) h.writes h.images set w.block volume.images.in_time last.0) ∙ need)

-- ## a block is written for the first time since the newest cut

-- a block that the newest image does not name is still as it was at its point
newest_content : (ws : List Write) (images : List Image) (m p b : ℕ) → AreInTime (length ws) images → IsNewest (sets_of images) m → is_named ws images m b ≡ false → point_in m images ≡ Some p
    → content ws p b ≡ content ws (length ws) b
newest_content ws images m p b time last none point = grind (arith, unnamed_to_end, named_point, newest_most)

not_named : (t : Bool) → not t ≡ true → t ≡ false
not_named t e = grind arith

module _ (told slots : Option (List (List ℕ))) (records : List Record) (v n : ℕ) (sets : List ℕ) (h : History) (w : Write) (m slot : ℕ) (copy : List ℕ)
    (volume : IsVolume told slots records v n sets h) (l : w.block < n) (need : needs_slot h.writes h.images w.block ≡ true) (last : IsNewest sets m) (is_free : slice_get records slot ≡ Some free)
    (old : IfSome told (λ blocks. slice_get blocks w.block ≡ Some copy)) (room : IfSome slots (λ blocks. place_of_slot (length records) slot < length blocks)) where
  last_image : IsNewest (sets_of h.images) m
  last_image = subst (λ (ss : List ℕ). IsNewest ss m) volume.sets_are last

  -- the record of each slot now
  here : slice_get (noted slot (record_of v m w.block) records) slot ≡ Some (record_of v m w.block)
  here = slice_get-set_same records slot free (record_of v m w.block) is_free

  there : (s : ℕ) → (s == slot) ≡ false → slice_get (noted slot (record_of v m w.block) records) s ≡ slice_get records s
  there s e = slice_get-set_other records slot s (record_of v m w.block) (λ is. other_number s slot e (sym is))

  is_here : (s set b : ℕ) → (s == slot) ≡ true → slice_get (noted slot (record_of v m w.block) records) s ≡ Some (record_of v set b) → record_of v m w.block ≡ record_of v set b
  is_here s set b e at = grind (arith, same_Some, here, same_number)

  named_first_written : (s set b : ℕ) → 0 < set → slice_get (noted slot (record_of v m w.block) records) s ≡ Some (record_of v set b) → (t : Bool) → (s == slot) ≡ t
      → is_named (h.writes ++ w ∷ []) h.images set b ≡ true
  named_first_written s set b above at t e = grind (arith, is_here, named_now, last_image, named-more, there)

  recorded_first : (set b : ℕ) → b < n → (is_named h.writes h.images set b ≡ true) ⊎ (IsNewest (sets_of h.images) set × (w.block ≡ b))
      → (s : ℕ) × (slice_get (noted slot (record_of v m w.block) records) s ≡ Some (record_of v set b))
  recorded_first set b within (inl was) =
      let found = volume.recorded set b within was in
      let away = not_free records slot found.0 v set b is_free found.1 (named_above h.writes set b h.images volume.images.above_zero was) in
      (found.0, there found.0 (number_is_other found.0 slot away) ∙ found.1)
  recorded_first set b within (inr now) =
      let mine = newest_point h.images m last_image in
      let theirs = newest_point h.images set now.0 in
      let above = newest_most (length h.writes) h.images m set theirs.0 volume.images.in_time last_image theirs.1 in
      let below = newest_most (length h.writes) h.images set m mine.0 volume.images.in_time now.0 mine.1 in
      let same : m ≡ set = omega arith in
      (slot, here ∙ ap (λ (k : ℕ). Some (record_of v k w.block)) same ∙ ap (λ (c : ℕ). Some (record_of v set c)) now.1)

  -- what the slot has is what the image shows
  copied_now : (set b p : ℕ) → record_of v m w.block ≡ record_of v set b → point_in set h.images ≡ Some p → is_some told ≡ true → copy ≡ content (h.writes ++ w ∷ []) p b
  copied_now set b p same point tells =
      let set_is : m ≡ set = ap (λ (r : Record). r.set) same in
      let block_is : w.block ≡ b = ap (λ (r : Record). r.block) same in
      let my_point : point_in m h.images ≡ Some p = ap (λ k. point_in k h.images) set_is ∙ point in
      let none = not_named (is_named h.writes h.images m w.block) (sym (needs_named (length h.writes) h.writes h.images m w.block volume.images.in_time last_image) ∙ need) in
      one_told told w.block copy (content h.writes (length h.writes) w.block) old (now told slots records v n sets h w.block volume l) tells
      ∙ sym (newest_content h.writes h.images m p w.block volume.images.in_time last_image none my_point)
      ∙ sym (content-before h.writes (w ∷ []) p w.block (point_within (length h.writes) m p h.images volume.images.in_time my_point))
      ∙ ap (content (h.writes ++ w ∷ []) p) block_is

  copied_first : (s set b p : ℕ) → slice_get (noted slot (record_of v m w.block) records) s ≡ Some (record_of v set b) → point_in set h.images ≡ Some p → is_some told ≡ true → (t : Bool)
      → (s == slot) ≡ t
      → IfSome (option_map (λ blocks. slice_set blocks (place_of_slot (length records) slot) copy) slots)
      (λ blocks. slice_get blocks (place_of_slot (length records) s) ≡ Some (content (h.writes ++ w ∷ []) p b))
  copied_first s set b p at point tells true e =
      subst (λ (k : ℕ). IfSome (option_map (λ blocks. slice_set blocks (place_of_slot (length records) slot) copy) slots)
      (λ blocks. slice_get blocks (place_of_slot (length records) k) ≡ Some (content (h.writes ++ w ∷ []) p b))) (sym (same_number s slot e))
      (subst (λ (bytes : List ℕ). IfSome (option_map (λ blocks. slice_set blocks (place_of_slot (length records) slot) copy) slots)
      (λ blocks. slice_get blocks (place_of_slot (length records) slot) ≡ Some bytes)) (copied_now set b p (is_here s set b e at) point tells)
      (put_same slots (place_of_slot (length records) slot) copy room))
  copied_first s set b p at point tells false e =
      put_other slots (place_of_slot (length records) slot) (place_of_slot (length records) s) copy (Some (content (h.writes ++ w ∷ []) p b))
      (other_place (table_for (length records)) s slot (other_number s slot e))
      (subst (λ (bytes : List ℕ). IfSome slots (λ blocks. slice_get blocks (place_of_slot (length records) s) ≡ Some bytes))
      (sym (content-before h.writes (w ∷ []) p b (point_within (length h.writes) set p h.images volume.images.in_time point)))
      (volume.copied s set b p (sym (there s e) ∙ at) point tells))

  pub written_first : IsVolume (option_map (λ blocks. slice_set blocks w.block w.bytes) told) (option_map (λ blocks. slice_set blocks (place_of_slot (length records) slot) copy) slots)
      (noted slot (record_of v m w.block) records) v n sets (written w h)
  written_first = record {
    blocks = put_told n h.writes w told w.bytes l (λ tells. refl) volume.blocks;
    sets_are = volume.sets_are;
    images = images-more h.writes w h.images volume.images;
    named = λ s set b above at. named_first_written s set b above at (s == slot) refl;
    recorded = λ set b within is. recorded_first set b within (named_was h.writes w h.images set b volume.images.in_time is);
    copied = λ s set b p at point tells.
        subst (λ (k : ℕ). IfSome (option_map (λ blocks. slice_set blocks (place_of_slot (length records) slot) copy) slots)
        (λ blocks. slice_get blocks (place_of_slot k s) ≡ Some (content (h.writes ++ w ∷ []) p b))) (sym (length-slice_set records slot (record_of v m w.block)))
        (copied_first s set b p at point (sym (put_tells told w.block w.bytes) ∙ tells) (s == slot) refl);
  }

-- ## a write to a volume of the group

-- a write needs a slot where the newest image has no copy of the block
pub group_needs : {D : Type 0} → (told : D → Option (List (List ℕ))) (g : GroupValue D) (hs : List History) (v b : ℕ) → StandsFor told g hs → b < blocks_at g v
    → IsNeeded g.area.records v (sets_at g v) b → needs_slot_in (slice_get hs v) b ≡ true
group_needs told g hs v b stands l needed =
    let place = place_of_block told g hs v b stands l in
    ap (λ (h : Option History). needs_slot_in h b) place.history_is
    ∙ needs (told_in (told g.area.device) (told place.device)) (told g.area.device) g.area.records v place.blocks (sets_at g v) (history_at hs v) b place.stands place.within needed

-- a write needs no slot where no image stands, or where the newest has a copy
pub group_needs_none : {D : Type 0} → (told : D → Option (List (List ℕ))) (g : GroupValue D) (hs : List History) (v b : ℕ) → StandsFor told g hs → b < blocks_at g v → sets_at g v ≡ []
    → needs_slot_in (slice_get hs v) b ≡ false
group_needs_none told g hs v b stands l none =
    let place = place_of_block told g hs v b stands l in
    ap (λ (h : Option History). needs_slot_in h b) place.history_is ∙ no_image (history_at hs v).writes (history_at hs v).images b (sym place.stands.sets_are ∙ none)

pub group_needs_not : {D : Type 0} → (told : D → Option (List (List ℕ))) (g : GroupValue D) (hs : List History) (v b slot : ℕ) → StandsFor told g hs → b < blocks_at g v
    → slice_get g.area.records slot ≡ Some (record_of v (newest (sets_at g v)) b) → needs_slot_in (slice_get hs v) b ≡ false
group_needs_not {D = D} told g hs v b slot stands l at =
    let place = place_of_block told g hs v b stands l in
    by_sets place.device place.blocks (sets_at g v) place.history_is place.stands at where
      by_sets : (d : D) (n : ℕ) (sets : List ℕ) → slice_get hs v ≡ Some (history_at hs v)
          → IsVolume (told_in (told g.area.device) (told d)) (told g.area.device) g.area.records v n sets (history_at hs v)
          → slice_get g.area.records slot ≡ Some (record_of v (newest sets) b) → needs_slot_in (slice_get hs v) b ≡ false
      by_sets d n [] is volume at = ap (λ (h : Option History). needs_slot_in h b) is
          ∙ needs_none (told_in (told g.area.device) (told d)) (told g.area.device) g.area.records v n (history_at hs v) b volume
      by_sets d n (set ∷ sets) is volume at = ap (λ (h : Option History). needs_slot_in h b) is
          ∙ needs_not (told_in (told g.area.device) (told d)) (told g.area.device) g.area.records v n (set ∷ sets) (history_at hs v) (newest (set ∷ sets)) b slot volume
          (newest_is (set ∷ sets) (omega arith)) at

-- the place of a slot is within the area's device
pub slot_room : (slots : Option (List (List ℕ))) (k slot : ℕ) → IfSome slots (AreBlocks (blocks_for k)) → slot < k → IfSome slots (λ blocks. place_of_slot k slot < length blocks)
slot_room slots k slot are l = grind arith

-- a block that needs no slot is written
pub group_written_again : {D : Type 0} → (told : D → Option (List (List ℕ))) (g new : GroupValue D) (hs : List History) (v : ℕ) (d e : D) (w : Write) → StandsFor told g hs → w.block < blocks_at g v
    → needs_slot_in (slice_get hs v) w.block ≡ false → slice_get g.devices v ≡ Some d → told e ≡ option_map (λ blocks. slice_set blocks w.block w.bytes) (told d)
    → new.devices ≡ slice_set g.devices v e → new.images ≡ g.images → new.area.volumes ≡ g.area.volumes → new.area.records ≡ g.area.records → told new.area.device ≡ told g.area.device
    → StandsFor told new (changed_at v (written w) hs)
group_written_again {D = D} told g new hs v d e w stands l need device tells devices images volumes records slots =
    let place = place_of_block told g hs v w.block stands l in
    let h = history_at hs v in
    let here : place.device ≡ d = same_Some place.device d (sym place.device_is ∙ device) in
    let more = option_map (λ (blocks : List (List ℕ)). slice_set blocks w.block w.bytes) (told_in (told g.area.device) (told d)) in
    let volume = written_again (told_in (told g.area.device) (told d)) (told g.area.device) g.area.records v place.blocks (sets_at g v) h w
    (subst (λ (x : D). IsVolume (told_in (told g.area.device) (told x)) (told g.area.device) g.area.records v place.blocks (sets_at g v) h) here place.stands) place.within
    (sym (ap (λ (x : Option History). needs_slot_in x w.block) place.history_is) ∙ need) in
    on_one told g new hs v place.blocks d e (sets_at g v) (sets_at g v) h (written w) stands place.blocks_is device place.sets_is place.history_is
    devices (images ∙ sym (slice_set-same g.images v (sets_at g v) place.sets_is)) volumes
    (others_same v g.area.records new.area.records records) (slots_same v g.area.records (told g.area.device) (told new.area.device) slots)
    (subst (λ (t : Option (List (List ℕ))). IsVolume (told_in (told new.area.device) t) (told new.area.device) new.area.records v place.blocks (sets_at g v) (written w h)) (sym tells)
    (subst (λ (t : Option (List (List ℕ))). IsVolume (told_in t (option_map (λ blocks. slice_set blocks w.block w.bytes) (told d))) t new.area.records v place.blocks (sets_at g v) (written w h))
    (sym slots)
    (subst (λ (t : Option (List (List ℕ))). IsVolume t (told g.area.device) new.area.records v place.blocks (sets_at g v) (written w h))
    (sym (told_in-map (told g.area.device) (told d) (λ blocks. slice_set blocks w.block w.bytes)))
    (subst (λ (rs : List Record). IsVolume more (told g.area.device) rs v place.blocks (sets_at g v) (written w h)) (sym records) volume))))

newest_some : (sets : List ℕ) (m : ℕ) → IsNewest sets m → 0 < length sets
newest_some [] m last = absurd last
newest_some (set ∷ sets) m last = omega arith

-- a block's old bytes are copied into a free slot, and the block is written
pub group_written_first : {D : Type 0} → (told : D → Option (List (List ℕ))) (g new : GroupValue D) (hs : List History) (v : ℕ) (d e : D) (w : Write) (slot : ℕ) (copy : List ℕ) → StandsFor told g hs
    → w.block < blocks_at g v
    → needs_slot_in (slice_get hs v) w.block ≡ true → slice_get g.devices v ≡ Some d → told e ≡ option_map (λ blocks. slice_set blocks w.block w.bytes) (told d)
    → slice_get g.area.records slot ≡ Some free → IfSome (told d) (λ blocks. slice_get blocks w.block ≡ Some copy)
    → IfSome (told g.area.device) (λ blocks. place_of_slot (length g.area.records) slot < length blocks)
    → new.devices ≡ slice_set g.devices v e → new.images ≡ g.images → new.area.volumes ≡ g.area.volumes → new.area.records ≡ noted slot (record_of v (newest (sets_at g v)) w.block) g.area.records
    → told new.area.device ≡ option_map (λ blocks. slice_set blocks (place_of_slot (length g.area.records) slot) copy) (told g.area.device) → StandsFor told new (changed_at v (written w) hs)
group_written_first {D = D} told g new hs v d e w slot copy stands l need device tells is_free old room devices images volumes records slots =
    let place = place_of_block told g hs v w.block stands l in
    let h = history_at hs v in
    let m = newest (sets_at g v) in
    let known = told_in (told g.area.device) (told d) in
    let more = option_map (λ (blocks : List (List ℕ)). slice_set blocks w.block w.bytes) known in
    let held = option_map (λ (blocks : List (List ℕ)). slice_set blocks (place_of_slot (length g.area.records) slot) copy) (told g.area.device) in
    let here : place.device ≡ d = same_Some place.device d (sym place.device_is ∙ device) in
    let before : IsVolume known (told g.area.device) g.area.records v place.blocks (sets_at g v) h
    = subst (λ (x : D). IsVolume (told_in (told g.area.device) (told x)) (told g.area.device) g.area.records v place.blocks (sets_at g v) h) here place.stands in
    let needed = sym (ap (λ (x : Option History). needs_slot_in x w.block) place.history_is) ∙ need in
    let stand = is_needed known (told g.area.device) g.area.records v place.blocks (sets_at g v) h w.block before needed in
    let last = newest_is (sets_at g v) (newest_some (sets_at g v) stand.set stand.newest_is) in
    let volume = written_first known (told g.area.device) g.area.records v place.blocks (sets_at g v) h w m slot copy before place.within needed last is_free
    (told_in-if (told g.area.device) (told d) (λ blocks. slice_get blocks w.block ≡ Some copy) old) room in
    on_one told g new hs v place.blocks d e (sets_at g v) (sets_at g v) h (written w) stands place.blocks_is device place.sets_is place.history_is
    devices (images ∙ sym (slice_set-same g.images v (sets_at g v) place.sets_is)) volumes
    (subst (λ (rs : List Record). OthersKept v g.area.records rs) (sym records) (others_noted g.area.records v m w.block slot is_free))
    (subst (λ (t : Option (List (List ℕ))). SlotsKept v g.area.records (told g.area.device) t) (sym slots) (others_overwritten g.area.records v slot (told g.area.device) copy is_free))
    (subst (λ (t : Option (List (List ℕ))). IsVolume (told_in (told new.area.device) t) (told new.area.device) new.area.records v place.blocks (sets_at g v) (written w h)) (sym tells)
    (subst (λ (t : Option (List (List ℕ))). IsVolume (told_in t (option_map (λ blocks. slice_set blocks w.block w.bytes) (told d))) t new.area.records v place.blocks (sets_at g v) (written w h))
    (sym slots)
    (subst (λ (t : Option (List (List ℕ))). IsVolume t held new.area.records v place.blocks (sets_at g v) (written w h))
    (sym (told_in-slots (told g.area.device) (option_map (λ blocks. slice_set blocks w.block w.bytes) (told d)) (λ blocks. slice_set blocks (place_of_slot (length g.area.records) slot) copy)
    ∙ told_in-map (told g.area.device) (told d) (λ blocks. slice_set blocks w.block w.bytes)))
    (subst (λ (rs : List Record). IsVolume more held rs v place.blocks (sets_at g v) (written w h)) (sym records) volume))))

-- a free slot was overwritten, and nothing else changed
pub group_overwritten : {D : Type 0} → (told : D → Option (List (List ℕ))) (g new : GroupValue D) (hs : List History) (slot : ℕ) (bytes : List ℕ) → StandsFor told g hs
    → slice_get g.area.records slot ≡ Some free
    → map told new.devices ≡ map told g.devices → new.images ≡ g.images → new.area.volumes ≡ g.area.volumes → new.area.records ≡ g.area.records
    → told new.area.device ≡ option_map (λ blocks. slice_set blocks (place_of_slot (length g.area.records) slot) bytes) (told g.area.device) → StandsFor told new hs
group_overwritten {D = D} told g new hs slot bytes stands is_free devices images volumes records slots =
    let held = option_map (λ (blocks : List (List ℕ)). slice_set blocks (place_of_slot (length g.area.records) slot) bytes) (told g.area.device) in
    let long : length new.devices ≡ length g.devices = sym (length-map new.devices told) ∙ ap length devices ∙ length-map g.devices told in
    record {
      devices = long ∙ stands.devices ∙ ap length (sym volumes);
      images = ap length images ∙ stands.images ∙ ap length (sym volumes);
      histories = stands.histories ∙ ap length (sym volumes);
      each = λ v n x sets h number device row history.
          let within = slice_get_within new.devices v x device in
          let old = slice_get_inside g.devices v (omega arith) in
          let tells : Some (told old.0) ≡ Some (told x) = sym (slice_get_map told g.devices v old.0 old.1) ∙ ap (λ (ts : List (Option (List (List ℕ)))). slice_get ts v) (sym devices)
          ∙ slice_get_map told new.devices v x device in
          subst (λ (t : Option (List (List ℕ))). IsVolume (told_in (told new.area.device) t) (told new.area.device) new.area.records v n sets h) (same_Some (told old.0) (told x) tells)
          (subst (λ (t : Option (List (List ℕ))). IsVolume (told_in t (told old.0)) t new.area.records v n sets h) (sym slots)
          (subst (λ (t : Option (List (List ℕ))). IsVolume t held new.area.records v n sets h)
          (sym (told_in-slots (told g.area.device) (told old.0) (λ blocks. slice_set blocks (place_of_slot (length g.area.records) slot) bytes)))
          (subst (λ (rs : List Record). IsVolume (told_in (told g.area.device) (told old.0)) held rs v n sets h) (sym records)
          (slot_overwritten (told_in (told g.area.device) (told old.0)) (told g.area.device) g.area.records v n sets h slot bytes
          (stands.each v n old.0 sets h (ap (λ (ns : List ℕ). slice_get ns v) (sym volumes) ∙ number) old.1 (ap (λ (rows : List (List ℕ)). slice_get rows v) (sym images) ∙ row) history) is_free))));
    }
