-- The slots that a group's images use, counted by the records, and images that go up to a set, volume by volume.
use Rattle.std.proofs.Common.{ℕ, ◌≡◌, ◌<◌, true, false, List, length, Option, Some, None, sym, ap, ◌∙◌, ◌≢◌, zero, suc, ◌+◌, ◌≤◌, [], ◌∷◌, refl, arith, Bool}
use Rattle.std.proofs.Common.{◌&&◌}
use Rattle.std.proofs.lemmas.Bool.{false≢true, lt-ltb, le-ltb}
use Rattle.std.specs.Prelude.{slice_get, slice_set, if◌then◌else◌, nat_lt, nat_le, map}
use Rattle.write_history.specs.History.{History}
use Rattle.write_history.specs.Slots.{used, used_by}
use Rattle.diff_area.specs.Format.{AreRecords, free, is_free}
use Rattle.diff_area.specs.declared.table_record.Record.{Record}
use Rattle.diff_area.proofs.GoodRecords.{free_is}
use Rattle.cow_volume.specs.Calls.{is_among, sets_in, sets_at, blocks_in, blocks_at, history_at}
use Rattle.cow_volume.specs.Changes.{gone_on_row, gone_on, gone_row, gone_to, count_on, count_of}
use Rattle.cow_volume.specs.CopiesAfter.{with_records, after_gone, after_gone_on}
use Rattle.cow_volume.specs.StandsFor.{GroupValue, told_in, StandsFor}
use Rattle.cow_volume.specs.Room.{after, all_after}
use Rattle.cow_volume.specs.Parts.{CopiesValue}
use Rattle.cow_volume.proofs.Counting.{used_of, used_by_of, not_used_by_of, used_record}
use Rattle.cow_volume.proofs.MakingRoom.{same_parts}
use Rattle.cow_volume.proofs.Group.{place_at}

-- ## The slots that a group's images use, counted by the records.

pub group_used_on : {D : Type 0} (told : D → Option (List (List ℕ))) (g : GroupValue D) (hs : List History) (v : ℕ) → StandsFor told g hs → AreRecords g.area.volumes g.area.records
    → v < length g.area.volumes
    → count_on v g.area.records ≡ used (blocks_at g v) (history_at hs v).writes (history_at hs v).images
group_used_on told g hs v stands are within =
    let place = place_at told g hs v stands within in
    used_of (told_in (told g.area.device) (told place.device)) (told g.area.device) g.area.volumes g.area.records v place.blocks place.sets (history_at hs v) place.stands are place.blocks_at
    ∙ ap (λ (o : Option ℕ). used (blocks_in o) (history_at hs v).writes (history_at hs v).images) (sym place.blocks_at)

pub group_used_by : {D : Type 0} (told : D → Option (List (List ℕ))) (g : GroupValue D) (hs : List History) (v set : ℕ) → StandsFor told g hs → AreRecords g.area.volumes g.area.records
    → v < length g.area.volumes → is_among set (sets_at g v) ≡ true
    → Some (count_of v set g.area.records) ≡ used_by (blocks_at g v) (history_at hs v).writes (history_at hs v).images set
group_used_by told g hs v set stands are within among =
    let place = place_at told g hs v stands within in
    let here : is_among set place.sets ≡ true = ap (λ (o : Option (List ℕ)). is_among set (sets_in o)) (sym place.sets_at) ∙ among in
    sym (used_by_of (told_in (told g.area.device) (told place.device)) (told g.area.device) g.area.volumes g.area.records v place.blocks place.sets
    (history_at hs v) set place.stands are place.blocks_at here)
    ∙ ap (λ (o : Option ℕ). used_by (blocks_in o) (history_at hs v).writes (history_at hs v).images set) (sym place.blocks_at)

pub group_not_used_by : {D : Type 0} (told : D → Option (List (List ℕ))) (g : GroupValue D) (hs : List History) (v set : ℕ) → StandsFor told g hs → v < length g.area.volumes
    → is_among set (sets_at g v) ≡ false
    → None ≡ used_by (blocks_at g v) (history_at hs v).writes (history_at hs v).images set
group_not_used_by told g hs v set stands within among =
    let place = place_at told g hs v stands within in
    let here : is_among set place.sets ≡ false = ap (λ (o : Option (List ℕ)). is_among set (sets_in o)) (sym place.sets_at) ∙ among in
    sym (not_used_by_of (told_in (told g.area.device) (told place.device)) (told g.area.device) g.area.records v place.blocks place.sets (history_at hs v) set place.stands here)
    ∙ ap (λ (o : Option ℕ). used_by (blocks_in o) (history_at hs v).writes (history_at hs v).images set) (sym place.blocks_at)

-- ## The images up to a set go, volume by volume.

-- ## the records

-- the records of the sets up to k are gone from the volumes below u
abbrev pub gone_below_row : ℕ → ℕ → Record → Record
gone_below_row u k r = if (nat_lt 0 r.set && nat_lt r.volume u) && nat_le r.set k then free else r

abbrev pub gone_below : ℕ → ℕ → List Record → List Record
gone_below u k records = map (gone_below_row u k) records

map_as : {X Y Z : Type 0} → (f : Y → Z) (g : X → Y) (h : X → Z) (xs : List X) → ((x : X) → f (g x) ≡ h x) → map f (map g xs) ≡ map h xs
map_as f g h [] same = refl
map_as f g h (x ∷ xs) same = ap (λ y. y ∷ map f (map g xs)) (same x) ∙ ap (λ ys. h x ∷ ys) (map_as f g h xs same)

-- two rules that agree on these rows
map_at : {X Y : Type 0} → (f g : X → Y) (xs : List X) → ((i : ℕ) (x : X) → slice_get xs i ≡ Some x → f x ≡ g x) → map f xs ≡ map g xs
map_at f g [] same = refl
map_at f g (x ∷ xs) same = ap (λ y. y ∷ map f xs) (same 0 x refl) ∙ ap (λ ys. g x ∷ ys) (map_at f g xs (λ i y at. same (suc i) y at))

-- the row by its three tests
abbrev row_by : Bool → Bool → Bool → Record → Record
row_by a b c r = if (a && b) && c then free else r

row_gone : (u k : ℕ) (r : Record) → gone_on_row u k (gone_below_row u k r) ≡ gone_below_row (u + 1) k r
row_gone u k r = grind arith

pub records_more : (u k : ℕ) (records : List Record) → gone_on u k (gone_below u k records) ≡ gone_below (u + 1) k records
records_more u k records = map_as (gone_on_row u k) (gone_below_row u k) (gone_below_row (u + 1) k) records (row_gone u k)

-- at first no record is gone
pub records_none : (k : ℕ) (records : List Record) → gone_below 0 k records ≡ records
records_none k [] = refl
records_none k (r ∷ records) = ap (λ (x : Record). x ∷ gone_below 0 k records) (row_none (nat_lt 0 r.set) (nat_lt r.volume 0) (le-ltb r.volume 0 (omega arith)))
    ∙ ap (λ (rs : List Record). r ∷ rs) (records_none k records) where
      row_none : (a b : Bool) → b ≡ false → row_by a b (nat_le r.set k) r ≡ r
      row_none true true e = absurd (false≢true (sym e))
      row_none true false e = refl
      row_none false b e = refl

-- after all volumes the records up to the set are gone
pub records_all : (volumes : List ℕ) (k : ℕ) (records : List Record) → AreRecords volumes records → gone_below (length volumes) k records ≡ gone_to k records
records_all volumes k records are = map_at (gone_below_row (length volumes) k) (gone_row k) records by_row where
  either : (t : Bool) → (if t then free else free) ≡ free
  either true = refl
  either false = refl

  by_row : (slot : ℕ) (r : Record) → slice_get records slot ≡ Some r → gone_below_row (length volumes) k r ≡ gone_row k r
  by_row slot r at = by_test (is_free r) refl where
    by_test : (t : Bool) → is_free r ≡ t → gone_below_row (length volumes) k r ≡ gone_row k r
    by_test true e = let is = free_is r e in ap (gone_below_row (length volumes) k) is ∙ sym (either (nat_le 0 k)) ∙ ap (gone_row k) (sym is)
    by_test false e =
        let used = are.each slot r at (used_record r e) in
        ap (λ (t : Bool). row_by t (nat_lt r.volume (length volumes)) (nat_le r.set k) r) (lt-ltb 0 r.set used.set)
        ∙ ap (λ (t : Bool). row_by true t (nat_le r.set k) r) (lt-ltb r.volume (length volumes) used.volume)

-- ## the images

-- the images of the sets up to k are gone from the volumes below u
abbrev pub images_below : ℕ → ℕ → List (List ℕ) → List (List ℕ)
images_below zero k images = images
images_below (suc u) k [] = []
images_below (suc u) k (sets ∷ images) = after k sets ∷ images_below u k images

-- the others are as they were
images_above : (u w k : ℕ) (images : List (List ℕ)) → u ≤ w → slice_get (images_below u k images) w ≡ slice_get images w
images_above zero w k images le = refl
images_above (suc u) w k [] le = refl
images_above (suc u) zero k (sets ∷ images) le = absurd (omega arith)
images_above (suc u) (suc w) k (sets ∷ images) le = images_above u w k images (omega arith)

images_step : (u k : ℕ) (images : List (List ℕ)) → slice_set (images_below u k images) u (after k (sets_in (slice_get images u))) ≡ images_below (suc u) k images
images_step zero k [] = refl
images_step (suc u) k [] = refl
images_step zero k (x ∷ images) = refl
images_step (suc u) k (x ∷ images) = ap (λ (rows : List (List ℕ)). after k x ∷ rows) (images_step u k images)

images_all : (k : ℕ) (images : List (List ℕ)) → images_below (length images) k images ≡ all_after k images
images_all k [] = refl
images_all k (sets ∷ images) = ap (λ (rows : List (List ℕ)). after k sets ∷ rows) (images_all k images)

-- ## the copies

abbrev pub part_gone : {D : Type 0} → CopiesValue D → ℕ → ℕ → CopiesValue D
part_gone c u k = record { area = with_records (gone_below u k c.area.records) c.area; images = images_below u k c.images }

pub part_none : {D : Type 0} (c : CopiesValue D) (k : ℕ) → c ≡ part_gone c 0 k
part_none c k = grind (arith, same_parts, records_none)

pub part_more : {D : Type 0} (c : CopiesValue D) (u k : ℕ) → after_gone_on (part_gone c u k) u k ≡ part_gone c (u + 1) k
part_more c u k = grind (arith, same_parts, records_more, images_above, images_step)

pub part_all : {D : Type 0} (c : CopiesValue D) (k n : ℕ) → AreRecords c.area.volumes c.area.records → length c.images ≡ length c.area.volumes → n ≡ length c.area.volumes
    → part_gone c n k ≡ after_gone c k
part_all c k n are long end = grind (arith, same_parts, records_all, images_all)
