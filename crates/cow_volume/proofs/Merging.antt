-- An image that goes: its copies are given to the next older image, where that lacks them.
use Rattle.std.proofs.Common.{◌≡◌, ◌≢◌, ℕ, zero, suc, ◌<◌, ◌≤◌, List, [], ◌∷◌, ◌++◌, length, drop, refl, ap, sym, ◌∙◌, arith, Bool, true, false, ◌||◌, ◌&&◌, Option, Some, None, subst}
use Rattle.std.specs.Prelude.{slice_get, slice_set, slice_index, slice_range, ◌==◌, not, if◌then◌else◌, nat_lt, IfSome, is_some, map, filter}
use Rattle.std.specs.List.{fold}
use Rattle.std.proofs.Math.Bool.{or-true}
use Rattle.std.proofs.lemmas.Bool.{lt-ltb, le-ltb}
use Rattle.std.proofs.lemmas.List.Elements.{All-filter}
use Rattle.std.proofs.lemmas.List.Sums.{length-filter, count_by-le-length}
use Rattle.std.proofs.lemmas.List.Folds.{drop_split, list_any-append}
use Rattle.std.proofs.lemmas.List.{length-map, append_assoc, append_cancel_right}
use Rattle.std.proofs.lemmas.Option.{get_or_from_slice_get, slice_get_within, same_Some}
use Rattle.write_history.specs.History.{Write, Image, History, content, point_in, sets_of, without_set, names, dropped, AreLater, AreInTime}
use Rattle.write_history.specs.Slots.{writes_since}
use Rattle.diff_area.specs.Format.{free, AreRecords, place_of_slot}
use Rattle.diff_area.specs.declared.table_record.Record.{Record}
use Rattle.diff_map.specs.Rules.{next_older}
use Rattle.cow_volume.specs.StandsFor.{GroupValue, StandsFor, AreImages, is_named, record_of, told_in, IsVolume}
use Rattle.cow_volume.specs.Changes.{is_of, is_same_record, has_record, handed_down, merged_row, merged}
use Rattle.cow_volume.specs.Calls.{is_among, history_at, changed_at}
use Rattle.cow_volume.proofs.Reading.{unnamed_between}
use Rattle.cow_volume.proofs.Group.{OthersKept, slots_same, on_one, place_at, slice_set-same, slice_get_map, set_above, same_number, other_number, number_is, number_is_other}

-- ## writes between two points

range-split : (ws : List Write) (p q r : ℕ) → p ≤ q → q ≤ r → slice_range ws p r ≡ slice_range ws p q ++ slice_range ws q r
range-split ws p q r le more = append_cancel_right (slice_range ws p r) (slice_range ws p q ++ slice_range ws q r) (drop r ws)
    (sym (drop_split ws p r (omega arith)) ∙ drop_split ws p q le ∙ ap (λ (xs : List Write). slice_range ws p q ++ xs) (drop_split ws q r more)
    ∙ sym (append_assoc (slice_range ws p q) (slice_range ws q r) (drop r ws)))

-- the writes since a point, parted at a later one
names-split : (ws : List Write) (p q : ℕ) (newer : List Image) (b : ℕ) → p ≤ q → ((next : Image) (rest : List Image) → newer ≡ next ∷ rest → q ≤ next.point)
    → names (writes_since ws p newer) b ≡ (names (slice_range ws p q) b || names (writes_since ws q newer) b)
names-split ws p q [] b le above =
    ap (λ (xs : List Write). names xs b) (drop_split ws p q le) ∙ list_any-append (λ (w : Write). w.block == b) (slice_range ws p q) (drop q ws)
names-split ws p q (next ∷ rest) b le above =
    ap (λ (xs : List Write). names xs b) (range-split ws p q next.point le (above next rest refl)) ∙ list_any-append (λ (w : Write). w.block == b) (slice_range ws p q) (slice_range ws q next.point)

-- ## the images of a volume

pub true_not_false : true ≡ false → ⊥
true_not_false e = cc

-- the image before that of a set, by its set, where the images are gone through from this one on
abbrev before : Option ℕ → ℕ → List Image → Option ℕ
before last set [] = None
before last set (i ∷ images) = if i.set == set then last else before (Some i.set) set images

later_is_other : (set : ℕ) (i j : Image) → i.set ≡ set → i.set < j.set → (j.set == set) ≡ false
later_is_other set i j e l = number_is_other j.set set (λ same. absurd (omega arith))

-- no later image is of this set
without_set-later : (set : ℕ) (i : Image) (images : List Image) → i.set ≡ set → AreLater i images → without_set set images ≡ images
without_set-later set i [] e later = refl
without_set-later set i (j ∷ images) e later =
    ap (λ (t : Bool). if not t then j ∷ without_set set images else without_set set images) (later_is_other set i j e later.0)
    ∙ ap (λ (xs : List Image). j ∷ xs) (without_set-later set i images e later.2)

-- what was before an image is it, or what the walk began with, or one of those between
before_later : (i : Image) (a set o : ℕ) (images : List Image) → AreLater i images → i.set < a → before (Some a) set images ≡ Some o → i.set < o
before_later i a set o [] later l e = absurd cc
before_later i a set o (j ∷ images) later l e = by_test (j.set == set) (before_later i j.set set o images later.2 later.0) e where
  by_test : (t : Bool) → (before (Some j.set) set images ≡ Some o → i.set < o) → (if t then Some a else before (Some j.set) set images) ≡ Some o → i.set < o
  by_test true rest f = let same : a ≡ o = cc in omega arith
  by_test false rest f = rest f

-- two images that stand side by side, of the sets o and set
data AreNext (o set : ℕ) : List Image → Type 0 where
  here : (i j : Image) (newer : List Image) → i.set ≡ o → j.set ≡ set → AreNext o set (i ∷ j ∷ newer)
  further : (i : Image) (images : List Image) → i.set ≢ o → i.set ≢ set → AreNext o set images → AreNext o set (i ∷ images)

-- the image before that of a set stands at its side
next_of : (i : Image) (o set : ℕ) (images : List Image) → i.set ≡ o → i.set ≢ set → AreLater i images → before (Some i.set) set images ≡ Some o → AreNext o set (i ∷ images)
next_of i o set [] is other later e = absurd cc
next_of i o set (j ∷ images) is other later e = by_test (j.set == set) refl e where
  by_test : (t : Bool) → (j.set == set) ≡ t → (if t then Some i.set else before (Some j.set) set images) ≡ Some o → AreNext o set (i ∷ j ∷ images)
  by_test true same f = here i j images is (same_number j.set set same)
  by_test false same f = let above = before_later i j.set set o images later.2 later.0 f in absurd (omega arith)

next_from : (last : Option ℕ) (o set n : ℕ) (images : List Image) → AreInTime n images → last ≢ Some o → before last set images ≡ Some o → AreNext o set images
next_from last o set n [] times new e = absurd cc
next_from last o set n (i ∷ images) times new e = by_tests (i.set == set) (i.set == o) refl refl (next_from (Some i.set) o set n images times.2) e where
  by_tests : (t u : Bool) → (i.set == set) ≡ t → (i.set == o) ≡ u → (Some i.set ≢ Some o → before (Some i.set) set images ≡ Some o → AreNext o set images)
      → (if t then last else before (Some i.set) set images) ≡ Some o → AreNext o set (i ∷ images)
  by_tests true u same is rest f = absurd (new f)
  by_tests false true same is rest f = next_of i o set images (same_number i.set o is) (other_number i.set set same) times.1 f
  by_tests false false same is rest f = further i images (other_number i.set o is) (other_number i.set set same) (rest (λ both. let one : i.set ≡ o = cc in other_number i.set o is one) f)

-- the next newer image begins no earlier
starts_after : (j : Image) (newer : List Image) → AreLater j newer → (next : Image) (rest : List Image) → newer ≡ next ∷ rest → j.point ≤ next.point
starts_after j newer later next rest e = grind arith

-- ## what images name

-- the next older image names what it or the image that goes named
joined_named : (ws : List Write) (o set b n : ℕ) (images : List Image) → o ≢ set → AreInTime n images → AreNext o set images
    → is_named ws (without_set set images) o b ≡ (is_named ws images o b || is_named ws images set b)
joined_named ws o set b n _ apart times (here i j newer is_o is_set) =
    let i_is_o : (i.set == o) ≡ true = rw is_o (number_is o) in
    let i_not_set : (i.set == set) ≡ false = number_is_other i.set set (λ e. apart (sym is_o ∙ e)) in
    let j_is_set : (j.set == set) ≡ true = rw is_set (number_is set) in
    let newer_kept : without_set set newer ≡ newer = without_set-later set j newer is_set times.2.1 in
    simp (i_not_set, j_is_set, i_is_o, newer_kept) (names-split ws i.point j.point newer b times.1.1 (starts_after j newer times.2.1))
joined_named ws o set b n _ apart times (further i images not_o not_set next) =
    let i_not_o = number_is_other i.set o not_o in
    let i_not_set = number_is_other i.set set not_set in
    simp (i_not_o, i_not_set) (joined_named ws o set b n images apart times.2 next)

-- the block at the two points is the same, where the older of the two does not name it
same_content : (ws : List Write) (o set b n p q : ℕ) (images : List Image) → o ≢ set → AreInTime n images → AreNext o set images → point_in o images ≡ Some p → point_in set images ≡ Some q
    → is_named ws images o b ≡ false → content ws q b ≡ content ws p b
same_content ws o set b n p q _ apart times (here i j newer is_o is_set) at_o at_set none =
    let i_is_o : (i.set == o) ≡ true = rw is_o (number_is o) in
    let i_not_set : (i.set == set) ≡ false = number_is_other i.set set (λ e. apart (sym is_o ∙ e)) in
    let j_is_set : (j.set == set) ≡ true = rw is_set (number_is set) in
    let first : Some i.point ≡ Some p = simp i_is_o at at_o in
    let second : Some j.point ≡ Some q = simp (i_not_set, j_is_set) at at_set in
    let i_point : i.point ≡ p = cc in
    let j_point : j.point ≡ q = cc in
    let unnamed : names (slice_range ws i.point j.point) b ≡ false = simp i_is_o at none in
    ap (λ (k : ℕ). content ws k b) (sym j_point) ∙ sym (unnamed_between ws i.point j.point b times.1.1 unnamed) ∙ ap (λ (k : ℕ). content ws k b) i_point
same_content ws o set b n p q _ apart times (further i images not_o not_set next) at_o at_set none =
    let i_not_o = number_is_other i.set o not_o in
    let i_not_set = number_is_other i.set set not_set in
    same_content ws o set b n p q images apart times.2 next (simp i_not_o at at_o) (simp i_not_set at at_set) (simp i_not_o at none)

-- the image that goes names nothing any more
gone_named : (ws : List Write) (set b : ℕ) (images : List Image) → is_named ws (without_set set images) set b ≡ false
gone_named ws set b [] = refl
gone_named ws set b (i ∷ images) = by_test (i.set == set) refl (gone_named ws set b images) where
  by_test : (t : Bool) → (i.set == set) ≡ t → is_named ws (without_set set images) set b ≡ false → is_named ws (if not t then i ∷ without_set set images else without_set set images) set b ≡ false
  by_test true e rest = rest
  by_test false e rest = simp e rest

-- every other image names what it named
kept_named : (ws : List Write) (last : Option ℕ) (set s b n : ℕ) (images : List Image) → AreInTime n images → s ≢ set → before last set images ≢ Some s
    → is_named ws (without_set set images) s b ≡ is_named ws images s b
kept_named ws last set s b n [] times apart not_older = refl
kept_named ws last set s b n (i ∷ images) times apart not_older =
    by_tests (i.set == set) (i.set == s) refl refl not_older (λ never. kept_named ws (Some i.set) set s b n images times.2 apart never) where
      since : (js : List Image) → before (Some i.set) set js ≢ Some i.set → writes_since ws i.point (without_set set js) ≡ writes_since ws i.point js
      since [] never = refl
      since (j ∷ js) never = at_next (j.set == set) never where
        at_next : (t : Bool) → (if t then Some i.set else before (Some j.set) set js) ≢ Some i.set
            → writes_since ws i.point (if not t then j ∷ without_set set js else without_set set js) ≡ writes_since ws i.point (j ∷ js)
        at_next true never = absurd (never refl)
        at_next false never = refl

      by_tests : (t u : Bool) → (i.set == set) ≡ t → (i.set == s) ≡ u → (if t then last else before (Some i.set) set images) ≢ Some s
          → (before (Some i.set) set images ≢ Some s → is_named ws (without_set set images) s b ≡ is_named ws images s b)
          → is_named ws (if not t then i ∷ without_set set images else without_set set images) s b ≡ (if u then names (writes_since ws i.point images) b else is_named ws images s b)
      by_tests true true e f never rest = absurd (apart (sym (same_number i.set s f) ∙ same_number i.set set e))
      by_tests true false e f never rest = ap (λ (xs : List Image). is_named ws xs s b) (without_set-later set i images (same_number i.set set e) times.1)
      by_tests false true e f never rest =
          let same = same_number i.set s f in
          simp f (ap (λ (xs : List Write). names xs b) (since images (λ is. never (is ∙ ap Some same))))
      by_tests false false e f never rest = simp f (rest never)

-- ## the next older image

abbrev walk : ℕ → Option ℕ → List ℕ → Option ℕ
walk set last sets = fold (λ older image. if nat_lt image set then Some image else older) last sets

walk_later : (set : ℕ) (last : Option ℕ) (i : Image) (images : List Image) → set ≤ i.set → AreLater i images → walk set last (sets_of images) ≡ last
walk_later set last i [] le later = refl
walk_later set last i (j ∷ images) le later =
    let low = later.0 in
    ap (λ (t : Bool). walk set (if t then Some j.set else last) (sets_of images)) (le-ltb j.set set (omega arith)) ∙ walk_later set last i images le later.2

-- an image of a later set comes later
pub above_of : (i : Image) (set : ℕ) (images : List Image) → AreLater i images → is_some (point_in set images) ≡ true → i.set < set
above_of i set [] later e = absurd cc
above_of i set (j ∷ images) later e = by_test (j.set == set) refl (above_of i set images later.2) e where
  by_test : (t : Bool) → (j.set == set) ≡ t → (is_some (point_in set images) ≡ true → i.set < set) → is_some (if t then Some j.point else point_in set images) ≡ true → i.set < set
  by_test true same rest f = let is = same_number j.set set same in let low = later.0 in omega arith
  by_test false same rest f = rest f

walk_before : (last : Option ℕ) (set n : ℕ) (images : List Image) → AreInTime n images → is_some (point_in set images) ≡ true → walk set last (sets_of images) ≡ before last set images
walk_before last set n [] times e = absurd cc
walk_before last set n (i ∷ images) times e = by_test (i.set == set) refl (walk_before (Some i.set) set n images times.2) e where
  by_test : (t : Bool) → (i.set == set) ≡ t → (is_some (point_in set images) ≡ true → walk set (Some i.set) (sets_of images) ≡ before (Some i.set) set images)
      → is_some (if t then Some i.point else point_in set images) ≡ true → walk set last (i.set ∷ sets_of images) ≡ (if t then last else before (Some i.set) set images)
  by_test true same rest f =
      let is = same_number i.set set same in
      ap (λ (t : Bool). walk set (if t then Some i.set else last) (sets_of images)) (le-ltb i.set set (omega arith)) ∙ walk_later set last i images (omega arith) times.1
  by_test false same rest f = ap (λ (t : Bool). walk set (if t then Some i.set else last) (sets_of images)) (lt-ltb i.set set (above_of i set images times.1 f)) ∙ rest f

pub older_is : (set n : ℕ) (images : List Image) → AreInTime n images → is_some (point_in set images) ≡ true → next_older (sets_of images) set ≡ before None set images
older_is set n images times e = walk_before None set n images times e

-- the image of a set that is among the images' has a point
pub point_of : (set : ℕ) (images : List Image) → is_among set (sets_of images) ≡ true → (p : ℕ) × (point_in set images ≡ Some p)
point_of set [] e = absurd cc
point_of set (i ∷ images) e = by_test (i.set == set) (point_of set images) e where
  by_test : (t : Bool) → (is_among set (sets_of images) ≡ true → (p : ℕ) × (point_in set images ≡ Some p)) → (t || is_among set (sets_of images)) ≡ true
      → (p : ℕ) × ((if t then Some i.point else point_in set images) ≡ Some p)
  by_test true rest f = (i.point, refl)
  by_test false rest f = rest f

-- ## fewer images

later-filter : (test : Image → Bool) (i : Image) (images : List Image) → AreLater i images → AreLater i (filter test images)
later-filter test i [] h = tt
later-filter test i (j ∷ images) h = grind (arith, h.0, h.1, later-filter test i images h.2)

in_time-filter : (test : Image → Bool) (n : ℕ) (images : List Image) → AreInTime n images → AreInTime n (filter test images)
in_time-filter test n [] h = tt
in_time-filter test n (i ∷ images) h = grind (arith, h.0, later-filter test i images h.1, in_time-filter test n images h.2)

pub AreImages-filter : (test : Image → Bool) (n : ℕ) (images : List Image) → AreImages n images → AreImages n (filter test images)
AreImages-filter test n images are = record {
  in_time = in_time-filter test n images are.in_time;
  above_zero = All-filter test (λ (i : Image). 0 < i.set) images are.above_zero;
  few = let long = are.few in let fewer = length-filter test images in let most = count_by-le-length test images in omega arith;
}

pub sets_of-filter : (test : ℕ → Bool) (images : List Image) → filter test (sets_of images) ≡ sets_of (filter (λ (i : Image). test i.set) images)
sets_of-filter test [] = refl
sets_of-filter test (i ∷ images) = by_test (test i.set) (sets_of-filter test images) where
  by_test : (t : Bool) → filter test (sets_of images) ≡ sets_of (filter (λ (i : Image). test i.set) images)
      → (if t then i.set ∷ filter test (sets_of images) else filter test (sets_of images)) ≡ sets_of
      (if t then i ∷ filter (λ (i : Image). test i.set) images else filter (λ (i : Image). test i.set) images)
  by_test true rest = ap (λ (xs : List ℕ). i.set ∷ xs) rest
  by_test false rest = rest

-- what passes the test, where a set has a point afterwards
pub point_passes : (test : ℕ → Bool) (s p : ℕ) (images : List Image) → point_in s (filter (λ (i : Image). test i.set) images) ≡ Some p → test s ≡ true
point_passes test s p [] e = absurd cc
point_passes test s p (i ∷ images) e = by_tests (test i.set) (i.set == s) refl refl (point_passes test s p images) e where
  by_tests : (t u : Bool) → test i.set ≡ t → (i.set == s) ≡ u → (point_in s (filter (λ (i : Image). test i.set) images) ≡ Some p → test s ≡ true)
      → point_in s (if t then i ∷ filter (λ (i : Image). test i.set) images else filter (λ (i : Image). test i.set) images) ≡ Some p → test s ≡ true
  by_tests true true passes same rest f = ap test (sym (same_number i.set s same)) ∙ passes
  by_tests true false passes same rest f = rest (simp same at f)
  by_tests false u passes same rest f = rest f

-- a point that a set has afterwards it had before
pub point_before : (test : ℕ → Bool) (s p : ℕ) (images : List Image) → point_in s (filter (λ (i : Image). test i.set) images) ≡ Some p → point_in s images ≡ Some p
point_before test s p [] e = absurd cc
point_before test s p (i ∷ images) e = by_tests (test i.set) (i.set == s) refl refl (point_before test s p images) (point_passes test s p images) e where
  by_tests : (t u : Bool) → test i.set ≡ t → (i.set == s) ≡ u → (point_in s (filter (λ (i : Image). test i.set) images) ≡ Some p → point_in s images ≡ Some p)
      → (point_in s (filter (λ (i : Image). test i.set) images) ≡ Some p → test s ≡ true)
      → point_in s (if t then i ∷ filter (λ (i : Image). test i.set) images else filter (λ (i : Image). test i.set) images) ≡ Some p → (if u then Some i.point else point_in s images) ≡ Some p
  by_tests true true passes same rest tests f = simp same at f
  by_tests true false passes same rest tests f = rest (simp same at f)
  by_tests false true passes same rest tests f = absurd (true_not_false (sym (tests f) ∙ ap test (sym (same_number i.set s same)) ∙ passes))
  by_tests false false passes same rest tests f = rest f

-- ## records

pub and_left : (a b : Bool) → (a && b) ≡ true → a ≡ true
and_left a b e = grind arith

pub and_right : (a b : Bool) → (a && b) ≡ true → b ≡ true
and_right a b e = grind arith

pub was_row : {X Y : Type 0} → (f : X → Y) (xs : List X) (slot : ℕ) (y : Y) → slice_get (map f xs) slot ≡ Some y → (x : X) × (slice_get xs slot ≡ Some x) × (f x ≡ y)
was_row f [] slot y at = absurd cc
was_row f (x ∷ xs) zero y at = let is : f x ≡ y = cc in (x, refl, is)
was_row f (x ∷ xs) (suc slot) y at = was_row f xs slot y at

-- a record of the image of a set on volume v
pub of_image : (v set : ℕ) (r : Record) → is_of v set r ≡ true → r ≡ record_of v set r.block
of_image v set r e = grind arith

pub is_of-it : (v set b : ℕ) → is_of v set (record_of v set b) ≡ true
is_of-it v set b = simp (number_is v, number_is set)

pub is_of-other_set : (v s set b : ℕ) → s ≢ set → is_of v set (record_of v s b) ≡ false
is_of-other_set v s set b other = simp (number_is v, number_is_other s set other)

is_of-other_volume : (u v s set b : ℕ) → u ≢ v → is_of v set (record_of u s b) ≡ false
is_of-other_volume u v s set b other = simp (number_is_other u v other)

same_if : (q r : Record) → is_same_record q r ≡ true → r ≡ q
same_if q r e = grind arith

pub same_it : (q : Record) → is_same_record q q ≡ true
same_it q = simp (number_is q.set, number_is q.block, number_is q.volume)

pub found_record : (records : List Record) (q : Record) → has_record records q ≡ true → (slot : ℕ) × (slice_get records slot ≡ Some q)
found_record [] q e = absurd cc
found_record (r ∷ records) q e = by_test (is_same_record q r) refl (found_record records q) e where
  by_test : (t : Bool) → is_same_record q r ≡ t → (has_record records q ≡ true → (slot : ℕ) × (slice_get records slot ≡ Some q)) → (t || has_record records q) ≡ true
      → (slot : ℕ) × (slice_get (r ∷ records) slot ≡ Some q)
  by_test true same rest f = (0, ap Some (same_if q r same))
  by_test false same rest f = let there = rest f in (suc there.0, there.1)

pub has_found : (records : List Record) (slot : ℕ) (q : Record) → slice_get records slot ≡ Some q → has_record records q ≡ true
has_found [] slot q at = absurd cc
has_found (r ∷ records) zero q at =
    let is : q ≡ r = cc in
    ap (λ (t : Bool). t || has_record records q) (ap (is_same_record q) (sym is) ∙ same_it q)
has_found (r ∷ records) (suc slot) q at = ap (λ (t : Bool). is_same_record q r || t) (has_found records slot q at) ∙ or-true (is_same_record q r)

-- ## what a merge makes of a record

-- it stays for another image, or its slot is free, or the next older image gets it, which lacked it
pub data MergedRow (records : List Record) (v : ℕ) (older : Option ℕ) (set : ℕ) (r q : Record) : Type 0 where
  stayed : is_of v set r ≡ false → q ≡ r → MergedRow records v older set r q
  freed : is_of v set r ≡ true → q ≡ free → MergedRow records v older set r q
  moved : (o : ℕ) → is_of v set r ≡ true → older ≡ Some o → has_record records (record_of v o r.block) ≡ false → q ≡ record_of v o r.block → MergedRow records v older set r q

merged_to : (records : List Record) (v : ℕ) (older : Option ℕ) (set : ℕ) (r : Record) → MergedRow records v older set r (merged_row records v older set r)
merged_to records v older set r = by_test (is_of v set r) refl older where
  by_test : (t : Bool) → is_of v set r ≡ t → (next : Option ℕ) → MergedRow records v next set r (if t then handed_down records v next r.block else r)
  by_test false e next = stayed e refl
  by_test true e None = freed e refl
  by_test true e (Some o) = by_copy (has_record records (record_of v o r.block)) refl where
    by_copy : (t : Bool) → has_record records (record_of v o r.block) ≡ t → MergedRow records v (Some o) set r (if t then free else record_of v o r.block)
    by_copy true f = freed e refl
    by_copy false f = moved o e refl f refl

pub merged_from : (records : List Record) (v : ℕ) (older : Option ℕ) (set : ℕ) (r q : Record) → merged_row records v older set r ≡ q → MergedRow records v older set r q
merged_from records v older set r q e = subst (λ (x : Record). MergedRow records v older set r x) e (merged_to records v older set r)

-- a record of another image or another volume stays
pub merged_stays : (records : List Record) (v : ℕ) (older : Option ℕ) (set slot : ℕ) (r : Record) → is_of v set r ≡ false → slice_get records slot ≡ Some r
    → slice_get (merged v older set records) slot ≡ Some r
merged_stays records v older set slot r e at = grind (arith, slice_get_map)

-- a record of the image that goes is given to the next older one, which lacks it
pub merged_moves : (records : List Record) (v o set slot b : ℕ) → has_record records (record_of v o b) ≡ false → slice_get records slot ≡ Some (record_of v set b)
    → slice_get (merged v (Some o) set records) slot ≡ Some (record_of v o b)
merged_moves records v o set slot b none at = grind (arith, slice_get_map, is_of-it)

pub free_set : (v s b : ℕ) → record_of v s b ≡ free → 0 < s → ⊥
free_set v s b e above = let none : s ≡ 0 = ap (λ (r : Record). r.set) e in absurd (omega arith)

-- the records of the other volumes are where they were
pub others_merged : (v : ℕ) (older : Option ℕ) (set : ℕ) (records : List Record) → OthersKept v records (merged v older set records)
others_merged v older set records = record {
  slots = length-map records (merged_row records v older set);
  stays = λ u slot s b other above at. merged_stays records v older set slot (record_of u s b) (is_of-other_volume u v s set b other) at;
  was = λ u slot s b other above at.
      let was = was_row (merged_row records v older set) records slot (record_of u s b) at in
      before_it u s b slot other above was.0 was.1 (merged_from records v older set was.0 (record_of u s b) was.2);
}
  where
    before_it : (u s b slot : ℕ) → u ≢ v → 0 < s → (r : Record) → slice_get records slot ≡ Some r → MergedRow records v older set r (record_of u s b) → slice_get records slot ≡ Some (record_of u s b)
    before_it u s b slot other above r at (stayed e is) = at ∙ ap Some (sym is)
    before_it u s b slot other above r at (freed e is) = absurd (free_set u s b is above)
    before_it u s b slot other above r at (moved o e next none is) = absurd (other (ap (λ (x : Record). x.volume) is))

-- ## the volume

-- the records of volume v are of its first n blocks
pub record AreWithin (v n : ℕ) (records : List Record) : Type 0 where
  pub each : (slot set b : ℕ) → 0 < set → slice_get records slot ≡ Some (record_of v set b) → b < n

pub within_blocks : (volumes : List ℕ) (records : List Record) (v n : ℕ) → AreRecords volumes records → slice_get volumes v ≡ Some n → AreWithin v n records
within_blocks volumes records v n are at = record {
  each = λ slot set b above there.
      let used = are.each slot (record_of v set b) there (λ none. free_set v set b none above) in
      let low : b < slice_index volumes v = used.block in
      let is : slice_index volumes v ≡ n = get_or_from_slice_get volumes v n 0 at in
      omega arith;
}

older_below : (o set n : ℕ) (images : List Image) → AreInTime n images → AreNext o set images → o < set
older_below o set n _ times (here i j newer is_o is_set) = let low = times.1.0 in omega arith
older_below o set n _ times (further i images not_o not_set next) = older_below o set n images times.2 next

module _ (told slots : Option (List (List ℕ))) (records : List Record) (v n : ℕ) (sets : List ℕ) (h : History) (set p_set : ℕ) (older : Option ℕ) (volume : IsVolume told slots records v n sets h)
    (within : AreWithin v n records) (is_older : before None set h.images ≡ older) (at_set : point_in set h.images ≡ Some p_set) where
  above_set : 0 < set
  above_set = set_above set p_set h.images volume.images.above_zero at_set

  next_is : (o : ℕ) → older ≡ Some o → AreNext o set h.images
  next_is o e = next_from None o set (length h.writes) h.images volume.images.in_time (λ f. absurd cc) (is_older ∙ e)

  apart : (o : ℕ) → older ≡ Some o → o ≢ set
  apart o e same = let low = older_below o set (length h.writes) h.images volume.images.in_time (next_is o e) in absurd (omega arith)

  joined : (o b : ℕ) → older ≡ Some o → is_named h.writes (without_set set h.images) o b ≡ (is_named h.writes h.images o b || is_named h.writes h.images set b)
  joined o b e = joined_named h.writes o set b (length h.writes) h.images (apart o e) volume.images.in_time (next_is o e)

  kept : (s b : ℕ) → s ≢ set → older ≢ Some s → is_named h.writes (without_set set h.images) s b ≡ is_named h.writes h.images s b
  kept s b other not_older = kept_named h.writes None set s b (length h.writes) h.images volume.images.in_time other (λ e. not_older (sym is_older ∙ e))

  named_row : (slot s b : ℕ) (r : Record) → 0 < s → slice_get records slot ≡ Some r → MergedRow records v older set r (record_of v s b) → is_named h.writes (without_set set h.images) s b ≡ true
  named_row slot s b r above at x6 = grind (arith, true_not_false, is_of-it, kept, same_number, other_number, free_set, above_set, of_image, joined, or-true)

  merged_named : (slot s b : ℕ) → 0 < s → slice_get (merged v older set records) slot ≡ Some (record_of v s b) → is_named h.writes (without_set set h.images) s b ≡ true
  merged_named slot s b above at =
      let was = was_row (merged_row records v older set) records slot (record_of v s b) at in
      named_row slot s b was.0 above was.1 (merged_from records v older set was.0 (record_of v s b) was.2)

  abbrev Recorded : ℕ → ℕ → Type 0
  Recorded s b = (slot : ℕ) × (slice_get (merged v older set records) slot ≡ Some (record_of v s b))

  stays_recorded : (s b : ℕ) → s ≢ set → b < n → is_named h.writes h.images s b ≡ true → Recorded s b
  stays_recorded s b other l e = let there = volume.recorded s b l e in (there.0, merged_stays records v older set there.0 (record_of v s b) (is_of-other_set v s set b other) there.1)

  -- the next older image has what the image that goes had
  older_recorded : (o b : ℕ) → older ≡ Some o → b < n → is_named h.writes h.images set b ≡ true → Recorded o b
  older_recorded o b next l e = by_copy (has_record records (record_of v o b)) refl where
    by_copy : (t : Bool) → has_record records (record_of v o b) ≡ t → Recorded o b
    by_copy true f = let there = found_record records (record_of v o b) f in (there.0, merged_stays records v older set there.0 (record_of v o b) (is_of-other_set v o set b (apart o next)) there.1)
    by_copy false f =
        let there = volume.recorded set b l e in
        (there.0, ap (λ (x : Option ℕ). slice_get (merged v x set records) there.0) next ∙ merged_moves records v o set there.0 b f there.1)

  joined_recorded : (o b : ℕ) → older ≡ Some o → b < n → is_named h.writes (without_set set h.images) o b ≡ true → Recorded o b
  joined_recorded o b next l e = by_test (is_named h.writes h.images o b) refl (sym (joined o b next) ∙ e) where
    by_test : (t : Bool) → is_named h.writes h.images o b ≡ t → (t || is_named h.writes h.images set b) ≡ true → Recorded o b
    by_test true f g = stays_recorded o b (apart o next) l f
    by_test false f g = older_recorded o b next l g

  merged_recorded : (s b : ℕ) → b < n → is_named h.writes (without_set set h.images) s b ≡ true → Recorded s b
  merged_recorded s b l e = grind (arith, true_not_false, same_number, gone_named, other_number, stays_recorded, kept, joined_recorded)

  -- the next older image did not name a block that it gets
  unnamed_before : (slot o b : ℕ) → slice_get records slot ≡ Some (record_of v set b) → has_record records (record_of v o b) ≡ false → is_named h.writes h.images o b ≡ false
  unnamed_before slot o b at none = grind (arith, above_set, true_not_false, has_found)

  abbrev Copied : ℕ → ℕ → ℕ → Type 0
  Copied slot p b = IfSome slots (λ blocks. slice_get blocks (place_of_slot (length records) slot) ≡ Some (content h.writes p b))

  copied_row : (slot s b p : ℕ) (r : Record) → slice_get records slot ≡ Some r → MergedRow records v older set r (record_of v s b) → point_in s (without_set set h.images) ≡ Some p
      → is_some told ≡ true → Copied slot p b
  copied_row slot s b p r at (stayed e is) point tells = volume.copied slot s b p (at ∙ ap Some (sym is)) (point_before (λ k. not (k == set)) s p h.images point) tells
  copied_row slot s b p r at (freed e is) point tells =
      absurd (free_set v s b is (set_above s p h.images volume.images.above_zero (point_before (λ k. not (k == set)) s p h.images point)))
  copied_row slot s b p r at (moved o e next none is) point tells =
      let is_set : s ≡ o = ap (λ (x : Record). x.set) is in
      let is_block : b ≡ r.block = ap (λ (x : Record). x.block) is in
      let was : slice_get records slot ≡ Some (record_of v set b) = at ∙ ap Some (of_image v set r e) ∙ ap (λ (k : ℕ). Some (record_of v set k)) (sym is_block) in
      let lacks : has_record records (record_of v o b) ≡ false = ap (λ (k : ℕ). has_record records (record_of v o k)) is_block ∙ none in
      let at_older : point_in o h.images ≡ Some p = ap (λ (k : ℕ). point_in k h.images) (sym is_set) ∙ point_before (λ k. not (k == set)) s p h.images point in
      subst (λ (bytes : List ℕ). IfSome slots (λ blocks. slice_get blocks (place_of_slot (length records) slot) ≡ Some bytes))
      (same_content h.writes o set b (length h.writes) p p_set h.images (apart o next) volume.images.in_time (next_is o next) at_older at_set (unnamed_before slot o b was lacks))
      (volume.copied slot set b p_set was at_set tells)

  merged_copied : (slot s b p : ℕ) → slice_get (merged v older set records) slot ≡ Some (record_of v s b) → point_in s (without_set set h.images) ≡ Some p → is_some told ≡ true
      → IfSome slots (λ blocks. slice_get blocks (place_of_slot (length (merged v older set records)) slot) ≡ Some (content h.writes p b))
  merged_copied slot s b p at point tells =
      let was = was_row (merged_row records v older set) records slot (record_of v s b) at in
      subst (λ (k : ℕ). IfSome slots (λ blocks. slice_get blocks (place_of_slot k slot) ≡ Some (content h.writes p b))) (sym (length-map records (merged_row records v older set)))
      (copied_row slot s b p was.0 was.1 (merged_from records v older set was.0 (record_of v s b) was.2) point tells)

  merged_volume : IsVolume told slots (merged v older set records) v n (filter (λ s. not (s == set)) sets) (dropped set h)
  merged_volume = record {
    blocks = volume.blocks;
    sets_are = ap (filter (λ s. not (s == set))) volume.sets_are ∙ sets_of-filter (λ s. not (s == set)) h.images;
    images = AreImages-filter (λ (i : Image). not (i.set == set)) (length h.writes) h.images volume.images;
    named = merged_named;
    recorded = merged_recorded;
    copied = merged_copied;
  }

-- An image that goes: the next older one names what either named, and each other image names what it did.
pub dropped_stands : (told slots : Option (List (List ℕ))) (records : List Record) (v n : ℕ) (sets : List ℕ) (h : History) (set : ℕ) → AreWithin v n records → is_among set sets ≡ true
    → IsVolume told slots records v n sets h → IsVolume told slots (merged v (next_older sets set) set records) v n (filter (λ s. not (s == set)) sets) (dropped set h)
dropped_stands told slots records v n sets h set within among volume =
    let at = point_of set h.images (ap (is_among set) (sym volume.sets_are) ∙ among) in
    let some : is_some (point_in set h.images) ≡ true = ap (λ (p : Option ℕ). is_some p) at.1 in
    let older : next_older sets set ≡ before None set h.images = ap (λ (xs : List ℕ). next_older xs set) volume.sets_are ∙ older_is set (length h.writes) h.images volume.images.in_time some in
    merged_volume told slots records v n sets h set at.0 (next_older sets set) volume within (sym older) at.1

-- ## the group

-- An image goes from one volume of a group.
pub image_dropped_within : {D : Type 0} → (told : D → Option (List (List ℕ))) (g new : GroupValue D) (hs : List History) (v set : ℕ) (sets : List ℕ) → StandsFor told g hs
    → ((n : ℕ) → slice_get g.area.volumes v ≡ Some n → AreWithin v n g.area.records)
    → slice_get g.images v ≡ Some sets → is_among set sets ≡ true → new.devices ≡ g.devices → new.area.device ≡ g.area.device → new.area.volumes ≡ g.area.volumes
    → new.area.records ≡ merged v (next_older sets set) set g.area.records → new.images ≡ slice_set g.images v (filter (λ s. not (s == set)) sets) → StandsFor told new (changed_at v (dropped set) hs)
image_dropped_within told g new hs v set sets stands blocks at among devices device volumes records images =
    let inside = slice_get_within g.images v sets at in
    let long = stands.images in
    let place = place_at told g hs v stands (omega arith) in
    let same_sets : sets ≡ place.sets = same_Some sets place.sets (sym at ∙ place.sets_at) in
    let volume : IsVolume (told_in (told g.area.device) (told place.device)) (told g.area.device) g.area.records v place.blocks sets (history_at hs v)
    = subst (λ (xs : List ℕ). IsVolume (told_in (told g.area.device) (told place.device)) (told g.area.device) g.area.records v place.blocks xs (history_at hs v)) (sym same_sets) place.stands in
    let within = blocks place.blocks place.blocks_at in
    let kept : OthersKept v g.area.records new.area.records = subst (λ (rs : List Record). OthersKept v g.area.records rs) (sym records) (others_merged v (next_older sets set) set g.area.records) in
    let after : IsVolume (told_in (told new.area.device) (told place.device)) (told new.area.device) new.area.records v place.blocks (filter (λ s. not (s == set)) sets) (dropped set (history_at hs v))
    = subst (λ (t : Option (List (List ℕ))). IsVolume (told_in t (told place.device)) t new.area.records v place.blocks (filter (λ s. not (s == set)) sets) (dropped set (history_at hs v)))
    (sym (ap told device))
    (subst (λ (rs : List Record). IsVolume (told_in (told g.area.device) (told place.device)) (told g.area.device) rs v place.blocks (filter (λ s. not (s == set)) sets)
    (dropped set (history_at hs v))) (sym records)
    (dropped_stands (told_in (told g.area.device) (told place.device)) (told g.area.device) g.area.records v place.blocks sets (history_at hs v) set within among volume)) in
    on_one told g new hs v place.blocks place.device place.device sets (filter (λ s. not (s == set)) sets) (history_at hs v) (dropped set) stands place.blocks_at place.device_at at place.history
    (devices ∙ sym (slice_set-same g.devices v place.device place.device_at)) images volumes kept (slots_same v g.area.records (told g.area.device) (told new.area.device) (ap told device)) after

pub image_dropped : {D : Type 0} → (told : D → Option (List (List ℕ))) (g new : GroupValue D) (hs : List History) (v set : ℕ) (sets : List ℕ) → StandsFor told g hs
    → AreRecords g.area.volumes g.area.records
    → slice_get g.images v ≡ Some sets → is_among set sets ≡ true → new.devices ≡ g.devices → new.area.device ≡ g.area.device → new.area.volumes ≡ g.area.volumes
    → new.area.records ≡ merged v (next_older sets set) set g.area.records → new.images ≡ slice_set g.images v (filter (λ s. not (s == set)) sets) → StandsFor told new (changed_at v (dropped set) hs)
image_dropped told g new hs v set sets stands are at among devices device volumes records images =
    image_dropped_within told g new hs v set sets stands (λ n is. within_blocks g.area.volumes g.area.records v n are is) at among devices device volumes records images
