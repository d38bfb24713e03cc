-- The oldest images of a group that go together where no slot is left.
use Rattle.std.proofs.Common.{◌≡◌, ◌≢◌, ℕ, zero, suc, ◌+◌, ◌<◌, ◌≤◌, List, [], ◌∷◌, length, get_or, Contains, refl, ap, sym, ◌∙◌, arith, Bool, true, false, ◌||◌, ◌&&◌, Option, Some, subst, All}
use Rattle.std.specs.Prelude.{slice_get, ◌==◌, not, if◌then◌else◌, nat_lt, IfSome, is_some, map, filter, find, unwrap_or}
use Rattle.std.specs.List.{range_with_len}
use Rattle.std.proofs.lemmas.Bool.{lt-ltb, le-ltb, ltb-true, ltb-false, lt-leb}
use Rattle.std.proofs.lemmas.List.{length-map, get_or_default}
use Rattle.std.proofs.lemmas.List.Folds.{list_any_at}
use Rattle.std.proofs.lemmas.List.Elements.{All-head, All-tail}
use Rattle.std.proofs.lemmas.Option.{slice_get_within, same_Some}
use Rattle.write_history.specs.History.{Write, Image, History, content, point_in, sets_of, after_set, names, AreLater, AreInTime}
use Rattle.write_history.specs.Slots.{Placed, writes_since, needs_slot_in, group_used, lacks_slot, gone_up_to, evicted_up_to}
use Rattle.diff_area.specs.Format.{used_in, AreRecords, IsNarrow, place_of_slot}
use Rattle.diff_area.specs.declared.table_record.Record.{Record}
use Rattle.cow_volume.specs.StandsFor.{GroupValue, placed, StandsFor, is_named, record_of, told_in, IsVolume}
use Rattle.cow_volume.specs.Changes.{gone_row, gone_to}
use Rattle.cow_volume.specs.Calls.{is_among, IsEvicted}
use Rattle.cow_volume.specs.Room.{gone_group}
use Rattle.cow_volume.proofs.Group.{slice_get_inside, slice_get_map, set_above, same_number, other_number, number_is}
use Rattle.cow_volume.proofs.Merging.{AreImages-filter, sets_of-filter, point_before, was_row, true_not_false}
use Rattle.cow_volume.proofs.Writing.{no_image}
use Rattle.diff_area.proofs.GoodRecords.{and_left}

-- ## one volume

-- the images of the sets up to m are gone from a history
abbrev pub gone : ℕ → History → History
gone m h = record { writes = h.writes; images = after_set m h.images }

-- the images after one whose set is past m stay
after_later : (m : ℕ) (i : Image) (images : List Image) → m < i.set → AreLater i images → after_set m images ≡ images
after_later m i [] l later = refl
after_later m i (j ∷ images) l later =
    let low = later.0 in
    ap (λ (t : Bool). if t then j ∷ after_set m images else after_set m images) (lt-ltb m j.set (omega arith)) ∙ ap (λ (xs : List Image). j ∷ xs) (after_later m i images l later.2)

-- what a later image names is unchanged
after_named : (ws : List Write) (m s b n : ℕ) (images : List Image) → AreInTime n images → m < s → is_named ws (after_set m images) s b ≡ is_named ws images s b
after_named ws m s b n [] times l = refl
after_named ws m s b n (i ∷ images) times l = by_tests (nat_lt m i.set) (i.set == s) refl refl (after_named ws m s b n images times.2 l) where
  by_tests : (t u : Bool) → nat_lt m i.set ≡ t → (i.set == s) ≡ u → is_named ws (after_set m images) s b ≡ is_named ws images s b
      → is_named ws (if t then i ∷ after_set m images else after_set m images) s b ≡ (if u then names (writes_since ws i.point images) b else is_named ws images s b)
  by_tests true true past same rest = simp same (ap (λ (xs : List Image). names (writes_since ws i.point xs) b) (after_later m i images (ltb-true m i.set past) times.1))
  by_tests true false past same rest = simp same rest
  by_tests false true past same rest = let is = same_number i.set s same in let high = ltb-false m i.set past in absurd (omega arith)
  by_tests false false past same rest = rest

-- no image up to m names anything
none_named : (ws : List Write) (m s b : ℕ) (images : List Image) → s ≤ m → is_named ws (after_set m images) s b ≡ false
none_named ws m s b [] l = refl
none_named ws m s b (i ∷ images) l = by_tests (nat_lt m i.set) (i.set == s) refl refl (none_named ws m s b images l) where
  by_tests : (t u : Bool) → nat_lt m i.set ≡ t → (i.set == s) ≡ u → is_named ws (after_set m images) s b ≡ false → is_named ws (if t then i ∷ after_set m images else after_set m images) s b ≡ false
  by_tests true true past same rest = let is = same_number i.set s same in let low = ltb-true m i.set past in absurd (omega arith)
  by_tests true false past same rest = simp same rest
  by_tests false u past same rest = rest

-- an image names a block afterwards only where its set is past m
past_named : (ws : List Write) (m s b : ℕ) (images : List Image) → is_named ws (after_set m images) s b ≡ true → m < s
past_named ws m s b images e = grind (arith, ltb-true, true_not_false, none_named, ltb-false)

-- a record that is left is of a set past m
gone_was : (m v s b : ℕ) (r : Record) → 0 < s → gone_row m r ≡ record_of v s b → (r ≡ record_of v s b) × (m < s)
gone_was m v s b r above e = grind arith

-- The images of a volume up to m go, and the records of those sets.
pub gone_volume : (told slots : Option (List (List ℕ))) (records : List Record) (v n : ℕ) (sets : List ℕ) (h : History) (m : ℕ) → IsVolume told slots records v n sets h
    → IsVolume told slots (gone_to m records) v n (filter (λ s. nat_lt m s) sets) (gone m h)
gone_volume told slots records v n sets h m volume = record {
  blocks = volume.blocks;
  sets_are = ap (filter (λ s. nat_lt m s)) volume.sets_are ∙ sets_of-filter (λ s. nat_lt m s) h.images;
  images = AreImages-filter (λ (i : Image). nat_lt m i.set) (length h.writes) h.images volume.images;
  named = λ slot s b above at.
      let was = was_row (gone_row m) records slot (record_of v s b) at in
      let is = gone_was m v s b was.0 above was.2 in
      after_named h.writes m s b (length h.writes) h.images volume.images.in_time is.1 ∙ volume.named slot s b above (was.1 ∙ ap Some is.0);
  recorded = λ s b l named.
      let past = past_named h.writes m s b h.images named in
      let there = volume.recorded s b l (sym (after_named h.writes m s b (length h.writes) h.images volume.images.in_time past) ∙ named) in
      (there.0, (grind (arith, slice_get_map, lt-leb, there.1)));
  copied = λ slot s b p at point tells.
      let before = point_before (λ k. nat_lt m k) s p h.images point in
      let was = was_row (gone_row m) records slot (record_of v s b) at in
      let is = gone_was m v s b was.0 (set_above s p h.images volume.images.above_zero before) was.2 in
      subst (λ (k : ℕ). IfSome slots (λ blocks. slice_get blocks (place_of_slot k slot) ≡ Some (content h.writes p b))) (sym (length-map records (gone_row m)))
      (volume.copied slot s b p (was.1 ∙ ap Some is.0) before tells);
}

-- ## the group

-- what a group is without the images of the sets up to m
pub record AreGone {D : Type 0} (m : ℕ) (old new : GroupValue D) : Type 0 where
  pub devices : new.devices ≡ old.devices
  pub device : new.area.device ≡ old.area.device
  pub volumes : new.area.volumes ≡ old.area.volumes
  pub records : new.area.records ≡ gone_to m old.area.records
  pub images : new.images ≡ map (filter (λ s. nat_lt m s)) old.images

pub gone_up_to-at : (m : ℕ) (volumes : List ℕ) (hs : List History) (v n : ℕ) (h : History) → slice_get volumes v ≡ Some n → slice_get hs v ≡ Some h
    → slice_get (gone_up_to m (placed volumes) hs) v ≡ Some (gone m h)
gone_up_to-at m [] hs v n h at is = absurd cc
gone_up_to-at m (k ∷ volumes) [] v n h at is = absurd cc
gone_up_to-at m (k ∷ volumes) (x ∷ hs) zero n h at is = let same : x ≡ h = cc in ap (λ (y : History). Some (gone m y)) same
gone_up_to-at m (k ∷ volumes) (x ∷ hs) (suc v) n h at is = gone_up_to-at m volumes hs v n h at is

pub length-gone_up_to : (m : ℕ) (ps : List Placed) (hs : List History) → length (gone_up_to m ps hs) ≡ length hs
length-gone_up_to m [] hs = refl
length-gone_up_to m (p ∷ ps) [] = refl
length-gone_up_to m (p ∷ ps) (x ∷ hs) = ap suc (length-gone_up_to m ps hs)

-- Without the images up to m, and their records, the group stands for the histories without them.
pub gone_stands : {D : Type 0} → (told : D → Option (List (List ℕ))) (g new : GroupValue D) (hs : List History) (m : ℕ) → AreGone m g new → StandsFor told g hs
    → StandsFor told new (gone_up_to m (placed g.area.volumes) hs)
gone_stands told g new hs m went stands = record {
  devices = ap length went.devices ∙ stands.devices ∙ ap length (sym went.volumes);
  images = ap length went.images ∙ length-map g.images (filter (λ s. nat_lt m s)) ∙ stands.images ∙ ap length (sym went.volumes);
  histories = length-gone_up_to m (placed g.area.volumes) hs ∙ stands.histories ∙ ap length (sym went.volumes);
  each = λ v n d sets h number device row history.
      let number_was : slice_get g.area.volumes v ≡ Some n = ap (λ (ns : List ℕ). slice_get ns v) (sym went.volumes) ∙ number in
      let inside = slice_get_within g.area.volumes v n number_was in
      let long = stands.histories in
      let x = slice_get_inside hs v (omega arith) in
      let row_was = was_row (filter (λ s. nat_lt m s)) g.images v sets (ap (λ (rows : List (List ℕ)). slice_get rows v) (sym went.images) ∙ row) in
      let is : gone m x.0 ≡ h = same_Some (gone m x.0) h (sym (gone_up_to-at m g.area.volumes hs v n x.0 number_was x.1) ∙ history) in
      let volume = stands.each v n d row_was.0 x.0 number_was (ap (λ (ds : List _). slice_get ds v) (sym went.devices) ∙ device) row_was.1 x.1 in
      let went_volume = gone_volume (told_in (told g.area.device) (told d)) (told g.area.device) g.area.records v n row_was.0 x.0 m volume in
      subst (λ (k : History). IsVolume (told_in (told new.area.device) (told d)) (told new.area.device) new.area.records v n sets k) is
      (subst (λ (ss : List ℕ). IsVolume (told_in (told new.area.device) (told d)) (told new.area.device) new.area.records v n ss (gone m x.0)) row_was.2
      (subst (λ (rs : List Record). IsVolume (told_in (told new.area.device) (told d)) (told new.area.device) rs v n (filter (λ s. nat_lt m s) row_was.0) (gone m x.0)) (sym went.records)
      (subst (λ (t : Option (List (List ℕ))). IsVolume (told_in t (told d)) t (gone_to m g.area.records) v n (filter (λ s. nat_lt m s) row_was.0) (gone m x.0))
      (sym (ap told went.device)) went_volume)));
}

-- ## one set after another

-- ## where no image is up to a number

-- ## the number that is reached

find_first : (test : ℕ → Bool) (a n m : ℕ) → a ≤ m → m ≤ a + n → ((k : ℕ) → a ≤ k → k < m → test k ≡ false) → test m ≡ true → unwrap_or (find test (range_with_len a n)) (a + n) ≡ m
find_first test a zero m le within none found = omega arith
find_first test a (suc n) m le within none found =
    by_test (a == m) refl (λ low. find_first test (a + 1) n m low (omega arith) (λ k from to. none k (omega arith) to) found) where
      longer : a + suc n ≡ a + 1 + n
      longer = omega arith

      past : a ≢ m → a + 1 ≤ m
      past other = omega arith

      before : a ≢ m → a < m
      before other = omega arith

      by_test : (t : Bool) → (a == m) ≡ t → (a + 1 ≤ m → unwrap_or (find test (range_with_len (a + 1) n)) (a + 1 + n) ≡ m)
          → unwrap_or (if test a then Some a else find test (range_with_len (a + 1) n)) (a + suc n) ≡ m
      by_test true is rest = let same = same_number a m is in ap (λ (t : Bool). unwrap_or (if t then Some a else find test (range_with_len (a + 1) n)) (a + suc n)) (ap test same ∙ found) ∙ same
      by_test false is rest =
          let other = other_number a m is in
          ap (λ (t : Bool). unwrap_or (if t then Some a else find test (range_with_len (a + 1) n)) (a + suc n)) (none a (omega arith) (before other))
          ∙ ap (λ (d : ℕ). unwrap_or (find test (range_with_len (a + 1) n)) d) longer ∙ rest (past other)

-- The number that is reached is the definition's: the write lacks its slot at each lesser number, and not at this one.
pub evicted : (sets slots : ℕ) (ps : List Placed) (v b m : ℕ) (hs : List History) → m ≤ sets → ((k : ℕ) → k < m → lacks_slot slots ps v b (gone_up_to k ps hs) ≡ true)
    → lacks_slot slots ps v b (gone_up_to m ps hs) ≡ false → evicted_up_to sets slots ps v b hs ≡ m
evicted sets slots ps v b m hs le lacked has =
    let none : 0 + sets ≡ sets = omega arith in
    ap (unwrap_or (find (λ k. not (lacks_slot slots ps v b (gone_up_to k ps hs))) (range_with_len 0 sets))) (sym none)
    ∙ find_first (λ k. not (lacks_slot slots ps v b (gone_up_to k ps hs))) 0 sets m (omega arith) (omega arith) (λ k from to. ap not (lacked k to)) (ap not has)

-- a number that is at least every set that has an image
abbrev pub AreUpTo : ℕ → List History → Type 0
AreUpTo sets hs = (u n : ℕ) (h : History) → slice_get hs u ≡ Some h → is_some (point_in n h.images) ≡ true → n ≤ sets

-- So far has the eviction for a write of block b to volume v come: the write lacks its slot at each lesser number.
pub record IsReached (slots : ℕ) (ps : List Placed) (v b : ℕ) (hs : List History) (m : ℕ) : Type 0 where
  pub lacked : (k : ℕ) → k < m → lacks_slot slots ps v b (gone_up_to k ps hs) ≡ true
  pub low : (sets : ℕ) → AreUpTo sets hs → m ≤ sets

-- it ends where the write has its slot
pub reached_end : {D : Type 0} → (g : GroupValue D) (v b m : ℕ) (hs : List History) → IsReached (length g.area.records) (placed g.area.volumes) v b hs m
    → lacks_slot (length g.area.records) (placed g.area.volumes) v b (gone_up_to m (placed g.area.volumes) hs) ≡ false → IsEvicted g v b hs m
reached_end g v b m hs reached has sets all = grind (arith, evicted)

-- ## whether a slot is lacked

-- ## the least set that has an image

-- where a set stands
among_at : (s : ℕ) (sets : List ℕ) → is_among s sets ≡ true → (k : ℕ) × (k < length sets) × (get_or sets k 0 ≡ s)
among_at s [] e = absurd (true_not_false (sym e))
among_at s (x ∷ sets) e = by_test (x == s) refl (among_at s sets) e where
  by_test : (t : Bool) → (x == s) ≡ t → (is_among s sets ≡ true → (k : ℕ) × (k < length sets) × (get_or sets k 0 ≡ s)) → (t || is_among s sets) ≡ true
      → (k : ℕ) × (k < length (x ∷ sets)) × (get_or (x ∷ sets) k 0 ≡ s)
  by_test true same rest f = (0, omega arith, same_number x s same)
  by_test false same rest f = let there = rest f in (suc there.0, let l = there.1 in omega arith, there.2)

-- a set that is among these is one of them, and the other way round
pub contains_among : (s : ℕ) (sets : List ℕ) → is_among s sets ≡ true → Contains sets s
contains_among s sets e = let at = among_at s sets e in (at.0, at.1, get_or_default sets at.0 s 0 at.1 ∙ at.2)

pub among_contains : (s : ℕ) (sets : List ℕ) → Contains sets s → is_among s sets ≡ true
among_contains s sets at = list_any_at (λ x. x == s) sets at.0 s at.1 (ap (λ x. x == s) at.2 ∙ number_is s)

was_there : (m l p : ℕ) (images : List Image) → point_in l (after_set m images) ≡ Some p → is_some (point_in l images) ≡ true
was_there m l p images at = ap (λ (q : Option ℕ). is_some q) (point_before (λ k. nat_lt m k) l p images at)

-- ## before any image goes

after_zero : (images : List Image) → All (λ (i : Image). 0 < i.set) images → after_set 0 images ≡ images
after_zero [] above = refl
after_zero (i ∷ images) above =
    ap (λ (t : Bool). if t then i ∷ after_set 0 images else after_set 0 images) (lt-ltb 0 i.set (All-head (λ (i : Image). 0 < i.set) i images above))
    ∙ ap (λ (xs : List Image). i ∷ xs) (after_zero images (All-tail (λ (i : Image). 0 < i.set) i images above))

-- and so are its histories
pub gone_up_to_none : (ps : List Placed) (hs : List History) → ((u : ℕ) (h : History) → slice_get hs u ≡ Some h → All (λ (i : Image). 0 < i.set) h.images) → gone_up_to 0 ps hs ≡ hs
gone_up_to_none [] hs above = refl
gone_up_to_none (p ∷ ps) [] above = refl
gone_up_to_none (p ∷ ps) (h ∷ hs) above =
    ap (λ (x : History). x ∷ gone_up_to 0 ps hs) (by_test p.within) ∙ ap (λ (xs : List History). h ∷ xs) (gone_up_to_none ps hs (λ u x at. above (suc u) x at)) where
      by_test : (t : Bool) → (if t then gone 0 h else h) ≡ h
      by_test true = ap (λ (xs : List Image). record { writes = h.writes; images = xs }) (after_zero h.images (above 0 h refl))
      by_test false = refl

after_all : (sets : ℕ) (images : List Image) → ((n : ℕ) → is_some (point_in n images) ≡ true → n ≤ sets) → after_set sets images ≡ []
after_all sets [] low = refl
after_all sets (i ∷ images) low =
    ap (λ (t : Bool). if t then i ∷ after_set sets images else after_set sets images)
    (le-ltb sets i.set (low i.set (ap (λ (t : Bool). is_some (if t then Some i.point else point_in i.set images)) (number_is i.set))))
    ∙ after_all sets images (λ n some. low n (still_some n (i.set == n) some)) where
      still_some : (n : ℕ) (t : Bool) → is_some (point_in n images) ≡ true → is_some (if t then Some i.point else point_in n images) ≡ true
      still_some n true e = refl
      still_some n false e = e

-- where all images are gone, no slot is needed
pub needs_none_after : (sets : ℕ) (volumes : List ℕ) (hs : List History) (v b : ℕ) → AreUpTo sets hs → needs_slot_in (slice_get (gone_up_to sets (placed volumes) hs) v) b ≡ true
    → length hs ≡ length volumes → ⊥
needs_none_after sets [] [] v b all needs long = true_not_false (sym needs)
needs_none_after sets [] (h ∷ hs) v b all needs long = absurd (omega arith)
needs_none_after sets (n ∷ volumes) [] v b all needs long = absurd (omega arith)
needs_none_after sets (n ∷ volumes) (h ∷ hs) zero b all needs long =
    true_not_false (sym needs ∙ no_image h.writes (after_set sets h.images) b (ap sets_of (after_all sets h.images (λ k some. all 0 k h refl some))))
needs_none_after sets (n ∷ volumes) (h ∷ hs) (suc v) b all needs long = needs_none_after sets volumes hs v b (λ u k x at some. all (suc u) k x at some) needs (omega arith)

-- The number is the definition's where the write lacks its slot at each lesser one, and not at this one.
pub room_made : {D : Type 0} → (told : D → Option (List (List ℕ))) (g : GroupValue D) (hs : List History) (v b m : ℕ) → StandsFor told g hs
    → ((k : ℕ) → k < m → lacks_slot (length g.area.records) (placed g.area.volumes) v b (gone_up_to k (placed g.area.volumes) hs) ≡ true)
    → lacks_slot (length g.area.records) (placed g.area.volumes) v b (gone_up_to m (placed g.area.volumes) hs) ≡ false → IsEvicted g v b hs m
room_made told g hs v b m stands lacked has =
    reached_end g v b m hs (record { lacked = lacked; low = λ sets all. at_most sets all (nat_lt sets m) refl }) has where
      at_most : (sets : ℕ) → AreUpTo sets hs → (t : Bool) → nat_lt sets m ≡ t → m ≤ sets
      at_most sets all true before =
          absurd (needs_none_after sets g.area.volumes hs v b all
          (and_left _ (group_used (placed g.area.volumes) (gone_up_to sets (placed g.area.volumes) hs) == length g.area.records) (lacked sets (ltb-true sets m before))) stands.histories)
      at_most sets all false after = ltb-false sets m after

-- ## the group without the images up to a set

pub is_gone : {D : Type 0} → (m : ℕ) (g : GroupValue D) → AreGone m g (gone_group m g)
is_gone m g = record { devices = refl; device = refl; volumes = refl; records = refl; images = refl }

narrow_row : (m : ℕ) (r q : Record) → gone_row m r ≡ q → IsNarrow r → IsNarrow q
narrow_row m r q e narrow = grind arith

-- its records are those of an area
pub gone_records : (volumes : List ℕ) (records : List Record) (m : ℕ) → AreRecords volumes records → AreRecords volumes (gone_to m records)
gone_records volumes records m are = record {
  few = let long = length-map records (gone_row m) in let few = are.few in omega arith;
  narrow = λ slot r at. let was = was_row (gone_row m) records slot r at in narrow_row m was.0 r was.2 (are.narrow slot was.0 was.1);
  each = λ slot r at used. let was = was_row (gone_row m) records slot r at in are.each slot r (was.1 ∙ ap Some (grind (arith, was.2))) used;
  once = λ slot other r at there used.
      let was = was_row (gone_row m) records slot r at in
      let was_there = was_row (gone_row m) records other r there in
      are.once slot other r (was.1 ∙ ap Some (grind (arith, was.2))) (was_there.1 ∙ ap Some (grind (arith, was_there.2))) used;
}

-- the definition's test by the records that are left
pub lacks_by_records : (records : List Record) (ps : List Placed) (v b m : ℕ) (hs : List History) (needed : Bool) → needed ≡ needs_slot_in (slice_get (gone_up_to m ps hs) v) b
    → used_in (gone_to m records) ≡ group_used ps (gone_up_to m ps hs)
    → (needed && (used_in (gone_to m records) == length (gone_to m records))) ≡ lacks_slot (length records) ps v b (gone_up_to m ps hs)
lacks_by_records records ps v b m hs needed needs used = grind (arith, length-map)

-- a group stands for its histories without the images up to 0
pub none_gone_stands : {D : Type 0} → (told : D → Option (List (List ℕ))) (g : GroupValue D) (hs : List History) → StandsFor told g hs → StandsFor told g (gone_up_to 0 (placed g.area.volumes) hs)
none_gone_stands told g hs stands = subst (λ (xs : List History). StandsFor told g xs) (sym (gone_up_to_none (placed g.area.volumes) hs by_volume)) stands where
  by_volume : (u : ℕ) (h : History) → slice_get hs u ≡ Some h → All (λ (i : Image). 0 < i.set) h.images
  by_volume u h at =
      let inside = slice_get_within hs u h at in
      let n = slice_get_inside g.area.volumes u (let histories = stands.histories in omega arith) in
      let d = slice_get_inside g.devices u (let histories = stands.histories in let devices = stands.devices in omega arith) in
      let sets = slice_get_inside g.images u (let histories = stands.histories in let images = stands.images in omega arith) in
      (stands.each u n.0 d.0 sets.0 h n.1 d.1 sets.1 at).images.above_zero
