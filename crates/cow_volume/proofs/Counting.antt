-- How many slots the images use: as many as the definitions of slots say, since the records that are not free and the
-- copies of the definitions are the same, each once.
use Rattle.std.proofs.Common.{◌≡◌, ◌≢◌, ◌<◌, ℕ, zero, suc, ◌+◌, List, [], ◌∷◌, length, map, refl, ap, sym, subst, ◌∙◌, arith, Bool, true, false, not, ◌||◌, Option, Some, None, inl, inr}
use Rattle.std.proofs.Common.{IsPermutation}
use Rattle.std.specs.Prelude.{filter, slice_get, slice_index, count_by, if◌then◌else◌, ◌==◌, nat_lt}
use Rattle.std.proofs.lemmas.List.{map-append, length-map, length-append}
use Rattle.std.proofs.lemmas.List.Sums.{length-filter}
use Rattle.std.proofs.lemmas.List.Sorted.{length_permutation}
use Rattle.std.proofs.lemmas.Option.{get_or_from_slice_get, slice_get_within}
use Rattle.std.proofs.lemmas.Bool.{lt-ltb, ltb-true, and_parts, and_from, not_from_false}
use Rattle.write_history.specs.History.{Write, Image, History, sets_of, AreInTime}
use Rattle.write_history.specs.Slots.{Copy, named, used, used_by, group_used, copy_of, copies_of, copies_from, copies}
use Rattle.diff_area.specs.Format.{free, is_free, used_in, AreRecords}
use Rattle.diff_area.specs.declared.table_record.Record.{Record}
use Rattle.cow_volume.specs.StandsFor.{GroupValue, placed, is_named, record_of, told_in, IsVolume, StandsFor}
use Rattle.cow_volume.specs.Changes.{is_of, is_on}
use Rattle.cow_volume.specs.Calls.{is_among}
use Rattle.cow_volume.proofs.Members.{Has, AreApart, permuted, has_at, place_of, has_left, has_right, has_either, has-map, from-map, apart-append, apart-map, has-filter, from-filter, apart-filter}
use Rattle.cow_volume.proofs.Group.{slice_get_inside, same_number, number_is}
use Rattle.cow_volume.proofs.Named.{Stands, key, numbers_are, named_of, used_by_it, of_named, of_set, above_zero, has-named, from-named, apart-named, is-copy, has-copy, length-copies, apart-copies}

-- ## one record

pub not_free : (r : Record) → 0 < r.set → r ≢ free
not_free r l e = let none : r.set ≡ 0 = ap (λ (x : Record). x.set) e in absurd (omega arith)

-- the block of a record is one of its volume's
pub within : (volumes : List ℕ) (records : List Record) (slot n v : ℕ) (r : Record) → AreRecords volumes records → slice_get volumes v ≡ Some n → slice_get records slot ≡ Some r → r.volume ≡ v
    → 0 < r.set → r.block < n
within volumes records slot n v r are is at volume above =
    let used = are.each slot r at (not_free r above) in
    let here : slice_index volumes r.volume ≡ n = ap (λ u. slice_index volumes u) volume ∙ get_or_from_slice_get volumes v n 0 is in
    let l = used.block in
    subst (λ k. r.block < k) here l

-- ## one volume

-- the record is that of a copy which the definitions give the volume
pub copy_there : (told slots : Option (List (List ℕ))) (records : List Record) (v n : ℕ) (sets : List ℕ) (h : History) (slot : ℕ) (r : Record) → IsVolume told slots records v n sets h
    → slice_get records slot ≡ Some r → r.volume ≡ v → 0 < r.set → r.block < n → Has r (map key (copies_of v n h.writes h.images))
copy_there told slots records v n sets h slot r is at volume above l =
    let same : r ≡ record_of v r.set r.block = ap (λ u. record_of u r.set r.block) volume in
    let named = is.named slot r.set r.block above (at ∙ ap (λ (x : Record). Some x) same) in
    let o = of_named h.writes r.set r.block h.images named in
    let since = sym (named_of (length h.writes) h.writes h.images o.image o.newer r.block is.images.in_time o.stands) ∙ ap (λ s. is_named h.writes h.images s r.block) o.set_is ∙ named in
    let back : record_of v o.image.set r.block ≡ r = ap (λ s. record_of v s r.block) o.set_is ∙ sym same in
    let P : Record → Type 0 = λ x. Has x (map key (copies_of v n h.writes h.images)) in
    subst P back (has-map key (copy_of v h.writes o.image r.block) (copies_of v n h.writes h.images) (has-copy v n h.writes h.images o.image o.newer r.block o.stands l since))

-- a copy that the definitions give the volume has its record
pub record ItsRecord (records : List Record) (v : ℕ) (r : Record) : Type 0 where
  pub slot : ℕ
  pub at : slice_get records slot ≡ Some r
  pub volume : r.volume ≡ v
  pub above : 0 < r.set

pub record_there : (told slots : Option (List (List ℕ))) (records : List Record) (v n : ℕ) (sets : List ℕ) (h : History) (c : Copy) → IsVolume told slots records v n sets h
    → Has c (copies_of v n h.writes h.images) → ItsRecord records v (key c)
record_there told slots records v n sets h c is has =
    let of = is-copy v n h.writes h.images c has in
    let named = named_of (length h.writes) h.writes h.images of.image of.newer c.block is.images.in_time of.stands ∙ of.named in
    let at = is.recorded of.image.set c.block of.within named in
    let above = above_zero h.images of.image of.newer is.images.above_zero of.stands in
    let same : record_of v of.image.set c.block ≡ key c = ap key of.is in
    let P : Record → Type 0 = λ r. ItsRecord records v r in
    subst P same (record { slot = at.0; at = at.1; volume = refl; above = above })

-- the records that a test lets through, where it is for the volume's copies, are those of the copies
pub held_of : (told slots : Option (List (List ℕ))) (volumes : List ℕ) (records : List Record) (v n : ℕ) (sets : List ℕ) (h : History) (test : Record → Bool) → IsVolume told slots records v n sets h
    → AreRecords volumes records → slice_get volumes v ≡ Some n
    → ((r : Record) → test r ≡ true → (r.volume ≡ v) × (0 < r.set)) → ((r : Record) → r.volume ≡ v → 0 < r.set → test r ≡ true)
    → IsPermutation (filter test records) (map key (copies_of v n h.writes h.images))
held_of told slots volumes records v n sets h test is are at says passes = permuted (filter test records) (map key (copies_of v n h.writes h.images))
    (apart-filter test records (λ i j r e f g. are.once i j r f g (not_free r (says r e).1)))
    (apart-copies (length h.writes) v n h.writes h.images is.images.in_time)
    (λ r m.
    let of = from-filter test r records m in
    let place = place_of records r of.0 in
    let known = says r of.1 in
    copy_there told slots records v n sets h place.0 r is place.1 known.0 known.1 (within volumes records place.0 n v r are at place.1 known.0 known.1))
    (λ r m.
    let of = from-map key r (copies_of v n h.writes h.images) m in
    let its = record_there told slots records v n sets h of.0 is of.1 in
    let P : Record → Type 0 = λ x. Has x (filter test records) in
    subst P of.2 (has-filter test (key of.0) records (passes (key of.0) its.volume its.above) (has_at records its.slot (key of.0) its.at)))

pub counted : (told slots : Option (List (List ℕ))) (volumes : List ℕ) (records : List Record) (v n : ℕ) (sets : List ℕ) (h : History) (test : Record → Bool) → IsVolume told slots records v n sets h
    → AreRecords volumes records → slice_get volumes v ≡ Some n
    → ((r : Record) → test r ≡ true → (r.volume ≡ v) × (0 < r.set)) → ((r : Record) → r.volume ≡ v → 0 < r.set → test r ≡ true) → count_by test records ≡ used n h.writes h.images
counted told slots volumes records v n sets h test is are at says passes =
    sym (length-filter test records)
    ∙ sym (length_permutation (filter test records) (map key (copies_of v n h.writes h.images)) (held_of told slots volumes records v n sets h test is are at says passes))
    ∙ length-map (copies_of v n h.writes h.images) key
    ∙ length-copies v n h.writes h.images

-- as many records are of a volume as its images use slots
pub used_of : (told slots : Option (List (List ℕ))) (volumes : List ℕ) (records : List Record) (v n : ℕ) (sets : List ℕ) (h : History) → IsVolume told slots records v n sets h
    → AreRecords volumes records → slice_get volumes v ≡ Some n
    → count_by (is_on v) records ≡ used n h.writes h.images
used_of told slots volumes records v n sets h is are at = counted told slots volumes records v n sets h (is_on v) is are at
    (λ r e. let parts = and_parts (r.volume == v) (nat_lt 0 r.set) e in (same_number r.volume v parts.0, ltb-true 0 r.set parts.1))
    (λ r e l. and_from (r.volume == v) (nat_lt 0 r.set) (numbers_are r.volume v e) (lt-ltb 0 r.set l))

-- ## one image

is_of_both : (v set : ℕ) (r : Record) → is_of v set r ≡ true → (r.volume ≡ v) × (r.set ≡ set)
is_of_both v set r e = let parts = and_parts (r.volume == v) (r.set == set) e in (same_number r.volume v parts.0, same_number r.set set parts.1)

by_image : (told slots : Option (List (List ℕ))) (volumes : List ℕ) (records : List Record) (v n : ℕ) (sets : List ℕ) (h : History) (i : Image) (newer : List Image)
    → IsVolume told slots records v n sets h → AreRecords volumes records → slice_get volumes v ≡ Some n → Stands i newer h.images
    → IsPermutation (filter (is_of v i.set) records) (map (λ b. record_of v i.set b) (named n h.writes i newer))
by_image told slots volumes records v n sets h i newer is are at stands =
    let above = above_zero h.images i newer is.images.above_zero stands in
    let names_it = λ (b : ℕ). named_of (length h.writes) h.writes h.images i newer b is.images.in_time stands in
    permuted (filter (is_of v i.set) records) (map (λ b. record_of v i.set b) (named n h.writes i newer))
    (apart-filter (is_of v i.set) records (λ j k r e f g. let same = (is_of_both v i.set r e).1 in are.once j k r f g (not_free r (omega arith))))
    (apart-map (λ b. record_of v i.set b) (named n h.writes i newer) (λ x y e. ap (λ (r : Record). r.block) e) (apart-named n h.writes i newer))
    (λ r m.
    let of = from-filter (is_of v i.set) r records m in
    let place = place_of records r of.0 in
    let known = is_of_both v i.set r of.1 in
    let same_set = known.1 in
    let over : 0 < r.set = omega arith in
    let same : r ≡ record_of v i.set r.block = ap (λ u. record_of u r.set r.block) known.0 ∙ ap (λ s. record_of v s r.block) known.1 in
    let name = sym (names_it r.block) ∙ is.named place.0 i.set r.block above (place.1 ∙ ap (λ (x : Record). Some x) same) in
    let P : Record → Type 0 = λ x. Has x (map (λ b. record_of v i.set b) (named n h.writes i newer)) in
    subst P (sym same) (has-map (λ b. record_of v i.set b) r.block (named n h.writes i newer)
    (has-named n h.writes i newer r.block (within volumes records place.0 n v r are at place.1 known.0 over) name)))
    (λ r m.
    let of = from-map (λ b. record_of v i.set b) r (named n h.writes i newer) m in
    let known = from-named n h.writes i newer of.0 of.1 in
    let its = is.recorded i.set of.0 known.0 (names_it of.0 ∙ known.1) in
    let P : Record → Type 0 = λ x. Has x (filter (is_of v i.set) records) in
    subst P of.2 (has-filter (is_of v i.set) (record_of v i.set of.0) records (and_from (v == v) (i.set == i.set) (number_is v) (number_is i.set)) (has_at records its.0 (record_of v i.set of.0) its.1)))

-- as many records are of an image as it uses slots
pub used_by_of : (told slots : Option (List (List ℕ))) (volumes : List ℕ) (records : List Record) (v n : ℕ) (sets : List ℕ) (h : History) (set : ℕ) → IsVolume told slots records v n sets h
    → AreRecords volumes records → slice_get volumes v ≡ Some n → is_among set sets ≡ true
    → used_by n h.writes h.images set ≡ Some (count_by (is_of v set) records)
used_by_of told slots volumes records v n sets h set is are at stands =
    let o = of_set set h.images (ap (is_among set) (sym is.sets_are) ∙ stands) in
    let moved = by_image told slots volumes records v n sets h o.image o.newer is are at o.stands in
    let count : length (named n h.writes o.image o.newer) ≡ count_by (is_of v o.image.set) records =
    sym (length-map (named n h.writes o.image o.newer) (λ b. record_of v o.image.set b))
    ∙ length_permutation (filter (is_of v o.image.set) records) (map (λ b. record_of v o.image.set b) (named n h.writes o.image o.newer)) moved
    ∙ length-filter (is_of v o.image.set) records in
    let P : ℕ → Type 0 = λ s. used_by n h.writes h.images s ≡ Some (count_by (is_of v s) records) in
    subst P o.set_is (used_by_it (length h.writes) n h.writes h.images o.image o.newer is.images.in_time o.stands ∙ ap (λ k. Some k) count)

unused : (n : ℕ) (ws : List Write) (images : List Image) (set : ℕ) → is_among set (sets_of images) ≡ false → used_by n ws images set ≡ None
unused n ws [] set e = refl
unused n ws (j ∷ js) set e = by_test (j.set == set) e (unused n ws js set) where
  by_test : (t : Bool) → (t || is_among set (sets_of js)) ≡ false → (is_among set (sets_of js) ≡ false → used_by n ws js set ≡ None)
      → (if t then Some (length (named n ws j js)) else used_by n ws js set) ≡ None
  by_test true f rest = cc
  by_test false f rest = rest f

-- and just the others have no image
pub not_used_by_of : (told slots : Option (List (List ℕ))) (records : List Record) (v n : ℕ) (sets : List ℕ) (h : History) (set : ℕ) → IsVolume told slots records v n sets h
    → is_among set sets ≡ false → used_by n h.writes h.images set ≡ None
not_used_by_of told slots records v n sets h set is none = unused n h.writes h.images set (ap (is_among set) (sym is.sets_are) ∙ none)

-- ## the group

-- a volume of the group, with its device, its images and its history
pub record OneOf {D : Type 0} (told : D → Option (List (List ℕ))) (g : GroupValue D) (v n : ℕ) (h : History) : Type 0 where
  pub device : D
  pub sets : List ℕ
  pub device_is : slice_get g.devices v ≡ Some device
  pub sets_are : slice_get g.images v ≡ Some sets
  pub volume : IsVolume (told_in (told g.area.device) (told device)) (told g.area.device) g.area.records v n sets h

pub one_of : {D : Type 0} (told : D → Option (List (List ℕ))) (g : GroupValue D) (hs : List History) (v n : ℕ) (h : History) → StandsFor told g hs → slice_get g.area.volumes v ≡ Some n
    → slice_get hs v ≡ Some h → OneOf told g v n h
one_of told g hs v n h stands at is =
    let l = slice_get_within g.area.volumes v n at in
    let few = stands.devices in
    let many = stands.images in
    let inside : v < length g.devices = omega arith in
    let among : v < length g.images = omega arith in
    let d = slice_get_inside g.devices v inside in
    let sets = slice_get_inside g.images v among in
    record { device = d.0; sets = sets.0; device_is = d.1; sets_are = sets.1; volume = stands.each v n d.0 sets.0 h at d.1 sets.1 is }

-- the history of a volume, and the number of its blocks
pub history_of : (volumes : List ℕ) (hs : List History) (v : ℕ) → length hs ≡ length volumes → v < length volumes → (n : ℕ) × (h : History) × (slice_get volumes v ≡ Some n) × (slice_get hs v ≡ Some h)
history_of volumes hs v same l =
    let n = slice_get_inside volumes v l in
    let inside : v < length hs = omega arith in
    let h = slice_get_inside hs v inside in
    (n.0, h.0, n.1, h.1)

-- a copy of the group is one of a volume
pub record IsGroupCopy (first : ℕ) (volumes : List ℕ) (hs : List History) (c : Copy) : Type 0 where
  pub at : ℕ
  pub blocks : ℕ
  pub history : History
  pub blocks_is : slice_get volumes at ≡ Some blocks
  pub history_is : slice_get hs at ≡ Some history
  pub has : Has c (copies_of (first + at) blocks history.writes history.images)

pub is-group-copy : (first : ℕ) (volumes : List ℕ) (hs : List History) (c : Copy) → Has c (copies_from first (placed volumes) hs) → IsGroupCopy first volumes hs c
is-group-copy first [] hs c m = absurd m
is-group-copy first (n ∷ volumes) [] c m = absurd m
is-group-copy first (n ∷ volumes) (h ∷ hs) c m = elim (has_either c (copies_of first n h.writes h.images) (copies_from (first + 1) (placed volumes) hs) m) [
  | inl k ↦ (let same : first ≡ first + 0 = omega arith in
      record { at = 0; blocks = n; history = h; blocks_is = refl; history_is = refl; has = subst (λ u. Has c (copies_of u n h.writes h.images)) same k })
  | inr k ↦ (let of = is-group-copy (first + 1) volumes hs c k in
      let same : first + 1 + of.at ≡ first + suc of.at = omega arith in
      record {
        at = suc of.at;
        blocks = of.blocks;
        history = of.history;
        blocks_is = of.blocks_is;
        history_is = of.history_is;
        has = subst
            (λ u. Has c (copies_of u of.blocks of.history.writes of.history.images)) same of.has;
      })
]

pub has-group-copy : (first : ℕ) (volumes : List ℕ) (hs : List History) (v n : ℕ) (h : History) (c : Copy) → slice_get volumes v ≡ Some n → slice_get hs v ≡ Some h
    → Has c (copies_of (first + v) n h.writes h.images) → Has c (copies_from first (placed volumes) hs)
has-group-copy first [] hs v n h c at is m = absurd cc
has-group-copy first (k ∷ volumes) [] v n h c at is m = absurd cc
has-group-copy first (k ∷ volumes) (i ∷ hs) zero n h c at is m =
    let same : first + 0 ≡ first = omega arith in
    let blocks : n ≡ k = cc in
    let history : h ≡ i = cc in
    let one = subst (λ u. Has c (copies_of u n h.writes h.images)) same m in
    let two = subst (λ u. Has c (copies_of first u h.writes h.images)) blocks one in
    let P : History → Type 0 = λ u. Has c (copies_of first k u.writes u.images) in
    has_left c (copies_of first k i.writes i.images) (copies_from (first + 1) (placed volumes) hs) (subst P history two)
has-group-copy first (k ∷ volumes) (i ∷ hs) (suc v) n h c at is m =
    let same : first + suc v ≡ first + 1 + v = omega arith in
    has_right c (copies_of first k i.writes i.images) (copies_from (first + 1) (placed volumes) hs)
    (has-group-copy (first + 1) volumes hs v n h c at is (subst (λ u. Has c (copies_of u n h.writes h.images)) same m))

-- the definitions of slots count them
pub length-group : (first : ℕ) (volumes : List ℕ) (hs : List History) → length (copies_from first (placed volumes) hs) ≡ group_used (placed volumes) hs
length-group first [] hs = refl
length-group first (n ∷ volumes) [] = refl
length-group first (n ∷ volumes) (h ∷ hs) =
    let one = length-copies first n h.writes h.images in
    let rest = length-group (first + 1) volumes hs in
    length-append (copies_of first n h.writes h.images) (copies_from (first + 1) (placed volumes) hs) ∙ omega arith

pub copy-volume : (v n : ℕ) (ws : List Write) (images : List Image) (c : Copy) → Has c (copies_of v n ws images) → v ≡ c.volume
copy-volume v n ws images c m = ap (λ (x : Copy). x.volume) (is-copy v n ws images c m).is

-- no two are of one block of one image of one volume
pub apart-group : (first : ℕ) (volumes : List ℕ) (hs : List History) → ((v : ℕ) (h : History) → slice_get hs v ≡ Some h → AreInTime (length h.writes) h.images)
    → AreApart (map key (copies_from first (placed volumes) hs))
apart-group first [] hs times = tt
apart-group first (n ∷ volumes) [] times = tt
apart-group first (n ∷ volumes) (h ∷ hs) times =
    let one = copies_of first n h.writes h.images in
    let rest = copies_from (first + 1) (placed volumes) hs in
    subst AreApart (sym (map-append key one rest)) (apart-append (map key one) (map key rest)
    (apart-copies (length h.writes) first n h.writes h.images (times 0 h refl))
    (apart-group (first + 1) volumes hs (λ v i e. times (suc v) i e))
    (λ r m k.
    let here = from-map key r one m in
    let there = from-map key r rest k in
    let of = is-group-copy (first + 1) volumes hs there.0 there.1 in
    let volume_here = copy-volume first n h.writes h.images here.0 here.1 in
    let volume_there = copy-volume (first + 1 + of.at) of.blocks of.history.writes of.history.images there.0 of.has in
    let record_here : here.0.volume ≡ r.volume = ap (λ (x : Record). x.volume) here.2 in
    let record_there : there.0.volume ≡ r.volume = ap (λ (x : Record). x.volume) there.2 in
    absurd (omega arith)))

not_false : (b : Bool) → not b ≡ true → b ≡ false
not_false b e = grind arith

pub used_record : (r : Record) → is_free r ≡ false → r ≢ free
used_record r e same = let test : is_free r ≡ true = ap is_free same in absurd cc

pub record_is_used : (r : Record) → 0 < r.set → is_free r ≡ false
record_is_used r l = grind arith

pub images_in_time : {D : Type 0} (told : D → Option (List (List ℕ))) (g : GroupValue D) (hs : List History) → StandsFor told g hs → (v : ℕ) (h : History) → slice_get hs v ≡ Some h
    → AreInTime (length h.writes) h.images
images_in_time told g hs stands v h e =
    let l = slice_get_within hs v h e in
    let as_many = stands.histories in
    let inside : v < length g.area.volumes = omega arith in
    let n = slice_get_inside g.area.volumes v inside in
    (one_of told g hs v n.0 h stands n.1 e).volume.images.in_time

-- the records that are not free are those of the copies of the group
pub group_held : {D : Type 0} (told : D → Option (List (List ℕ))) (g : GroupValue D) (hs : List History) → StandsFor told g hs → AreRecords g.area.volumes g.area.records
    → IsPermutation (filter (λ r. not (is_free r)) g.area.records) (map key (copies (placed g.area.volumes) hs))
group_held told g hs stands are = permuted (filter (λ r. not (is_free r)) g.area.records) (map key (copies (placed g.area.volumes) hs))
    (apart-filter (λ r. not (is_free r)) g.area.records (λ i j r e f k. are.once i j r f k (used_record r (not_false (is_free r) e))))
    (apart-group 0 g.area.volumes hs (images_in_time told g hs stands))
    (λ r m.
    let of = from-filter (λ r. not (is_free r)) r g.area.records m in
    let place = place_of g.area.records r of.0 in
    let used = are.each place.0 r place.1 (used_record r (not_false (is_free r) of.1)) in
    let its = history_of g.area.volumes hs r.volume stands.histories used.volume in
    let one = one_of told g hs r.volume its.0 its.1 stands its.2 its.3 in
    let there = copy_there (told_in (told g.area.device) (told one.device)) (told g.area.device) g.area.records r.volume its.0 one.sets its.1 place.0 r one.volume place.1 refl used.set
    (within g.area.volumes g.area.records place.0 its.0 r.volume r are its.2 place.1 refl used.set) in
    let c = from-map key r (copies_of r.volume its.0 its.1.writes its.1.images) there in
    let same : r.volume ≡ 0 + r.volume = omega arith in
    let P : Record → Type 0 = λ x. Has x (map key (copies (placed g.area.volumes) hs)) in
    subst P c.2 (has-map key c.0 (copies (placed g.area.volumes) hs)
    (has-group-copy 0 g.area.volumes hs r.volume its.0 its.1 c.0 its.2 its.3 (subst (λ u. Has c.0 (copies_of u its.0 its.1.writes its.1.images)) same c.1))))
    (λ r m.
    let at = from-map key r (copies (placed g.area.volumes) hs) m in
    let of = is-group-copy 0 g.area.volumes hs at.0 at.1 in
    let one = one_of told g hs of.at of.blocks of.history stands of.blocks_is of.history_is in
    let same : 0 + of.at ≡ of.at = omega arith in
    let its = record_there (told_in (told g.area.device) (told one.device)) (told g.area.device) g.area.records of.at of.blocks one.sets of.history at.0 one.volume
    (subst (λ u. Has at.0 (copies_of u of.blocks of.history.writes of.history.images)) same of.has) in
    let P : Record → Type 0 = λ x. Has x (filter (λ r. not (is_free r)) g.area.records) in
    subst P at.2 (has-filter (λ r. not (is_free r)) (key at.0) g.area.records (not_from_false (is_free (key at.0)) (record_is_used (key at.0) its.above)) (has_at g.area.records its.slot (key at.0) its.at)))

-- as many records are used as the images of the group use slots
pub group_used_of : {D : Type 0} (told : D → Option (List (List ℕ))) (g : GroupValue D) (hs : List History) → StandsFor told g hs → AreRecords g.area.volumes g.area.records
    → used_in g.area.records ≡ group_used (placed g.area.volumes) hs
group_used_of told g hs stands are =
    sym (length-filter (λ r. not (is_free r)) g.area.records)
    ∙ sym (length_permutation (filter (λ r. not (is_free r)) g.area.records) (map key (copies (placed g.area.volumes) hs)) (group_held told g hs stands are))
    ∙ length-map (copies (placed g.area.volumes) hs) key
    ∙ length-group 0 g.area.volumes hs
