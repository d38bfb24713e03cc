-- What the slots of the area's device hold, and that a group that is taken up again stands for the histories for which its parts stand.
use Rattle.std.proofs.Common.{◌≡◌, ℕ, zero, suc, ◌+◌, List, [], ◌∷◌, length, map, refl, ap, sym, subst, ◌∙◌, arith, Bool, true, false, not, Option, Some, None}
use Rattle.std.proofs.Common.{is_some, inl, inr, ◌<◌, get_or, IsPermutation, Contains}
use Rattle.std.proofs.lemmas.List.{length-map}
use Rattle.std.proofs.lemmas.List.Sorted.{Contains-permutation, IsPermutation-sym}
use Rattle.std.proofs.lemmas.Option.{get_or_from_slice_get, same_Some, slice_get_within}
use Rattle.std.specs.Prelude.{filter, slice_get, slice_index_or, if◌then◌else◌, IfSome, Ok}
use Rattle.volume_device.specs.InMemory.{AreBlocks}
use Rattle.volume_device.specs.declared.device.Device.{Ghosts}
use Rattle.write_history.specs.History.{History, content, point_in}
use Rattle.write_history.specs.Slots.{Copy, copies_of, copies, copy_of}
use Rattle.diff_area.specs.AreaValue.{AreaValue}
use Rattle.diff_area.specs.Copies.{copies_from, AreHeld, AreStored}
use Rattle.diff_area.specs.Format.{place_of_slot, blocks_for, is_free, AreRecords}
use Rattle.diff_area.specs.declared.table_record.Record.{Record}
use Rattle.cow_volume.specs.Ending.{IsSync, AllTell}
use Rattle.cow_volume.specs.StandsFor.{GroupValue, placed, record_of, told_in, IsVolume, StandsFor, is_named}
use Rattle.cow_volume.specs.Resuming.{IsVolumeKept, AreKept}
use Rattle.cow_volume.proofs.Counting.{within, copy_there, record_there, one_of, history_of, is-group-copy, has-group-copy, apart-group, used_record}
use Rattle.cow_volume.proofs.Counting.{record_is_used, images_in_time, copy-volume}
use Rattle.cow_volume.proofs.Group.{slice_get_inside}
use Rattle.cow_volume.proofs.Members.{Has, AreApart, permuted, from-map, apart_by, apart-filter}
use Rattle.cow_volume.proofs.Named.{key, point_of, is-copy, of_named, of_point, has-copy, named_of, above_zero}

-- ## What the slots of the area's device hold: the copies that the definitions of slots give the group.

-- ## the copies of records

-- the copy of a record, with these bytes
abbrev pub held : Record → List ℕ → Copy
held r bytes = record { volume = r.volume; set = r.set; block = r.block; bytes = bytes }

pub record IsHeld (slot : ℕ) (records : List Record) (bytes : ℕ → List ℕ) (c : Copy) : Type 0 where
  pub at : ℕ
  pub row : Record
  pub row_is : slice_get records at ≡ Some row
  pub used : is_free row ≡ false
  pub is : held row (bytes (slot + at)) ≡ c

pub is-held : (slot : ℕ) (records : List Record) (bytes : ℕ → List ℕ) (c : Copy) → Has c (copies_from slot records bytes) → IsHeld slot records bytes c
is-held slot [] bytes c m = absurd m
is-held slot (r ∷ rs) bytes c m = by_test (is_free r) refl m (is-held (slot + 1) rs bytes c) where
  later : IsHeld (slot + 1) rs bytes c → IsHeld slot (r ∷ rs) bytes c
  later h =
      let same : slot + suc h.at ≡ slot + 1 + h.at = omega arith in
      record { at = suc h.at; row = h.row; row_is = h.row_is; used = h.used; is = ap (λ k. held h.row (bytes k)) same ∙ h.is }

  by_test : (t : Bool) → is_free r ≡ t → Has c (if t then copies_from (slot + 1) rs bytes else held r (bytes slot) ∷ copies_from (slot + 1) rs bytes)
      → (Has c (copies_from (slot + 1) rs bytes) → IsHeld (slot + 1) rs bytes c) → IsHeld slot (r ∷ rs) bytes c
  by_test true e m rest = later (rest m)
  by_test false e (inl same) rest =
      let zero_more : slot + 0 ≡ slot = omega arith in
      record { at = 0; row = r; row_is = refl; used = e; is = ap (λ k. held r (bytes k)) zero_more ∙ same }
  by_test false e (inr m) rest = later (rest m)

pub has-held : (slot : ℕ) (records : List Record) (bytes : ℕ → List ℕ) (at : ℕ) (r : Record) → slice_get records at ≡ Some r → is_free r ≡ false
    → Has (held r (bytes (slot + at))) (copies_from slot records bytes)
has-held slot [] bytes at r e f = absurd cc
has-held slot (q ∷ rs) bytes zero r e f = by_test (is_free q) refl where
  by_test : (t : Bool) → is_free q ≡ t → Has (held r (bytes (slot + 0))) (if t then copies_from (slot + 1) rs bytes else held q (bytes slot) ∷ copies_from (slot + 1) rs bytes)
  by_test true g = (let same : q ≡ r = cc in let test : is_free q ≡ is_free r = ap is_free same in absurd cc)
  by_test false g =
      let same : q ≡ r = cc in
      let zero_more : slot ≡ slot + 0 = omega arith in
      inl (ap (λ x. held x (bytes slot)) same ∙ ap (λ k. held r (bytes k)) zero_more)
has-held slot (q ∷ rs) bytes (suc at) r e f =
    let same : slot + 1 + at ≡ slot + suc at = omega arith in
    let P : ℕ → Type 0 = λ k. Has (held r (bytes k)) (copies_from slot (q ∷ rs) bytes) in
    subst P same (by_test (is_free q) (has-held (slot + 1) rs bytes at r e f)) where
      by_test : (t : Bool) → Has (held r (bytes (slot + 1 + at))) (copies_from (slot + 1) rs bytes)
          → Has (held r (bytes (slot + 1 + at))) (if t then copies_from (slot + 1) rs bytes else held q (bytes slot) ∷ copies_from (slot + 1) rs bytes)
      by_test true m = m
      by_test false m = inr m

keys_held : (slot : ℕ) (records : List Record) (bytes : ℕ → List ℕ) → map key (copies_from slot records bytes) ≡ filter (λ r. not (is_free r)) records
keys_held slot [] bytes = refl
keys_held slot (r ∷ rs) bytes = by_test (is_free r) (keys_held (slot + 1) rs bytes) where
  by_test : (t : Bool) → map key (copies_from (slot + 1) rs bytes) ≡ filter (λ r. not (is_free r)) rs
      → map key (if t then copies_from (slot + 1) rs bytes else held r (bytes slot) ∷ copies_from (slot + 1) rs bytes)
      ≡ (if not t then r ∷ filter (λ r. not (is_free r)) rs else filter (λ r. not (is_free r)) rs)
  by_test true e = e
  by_test false e = ap (λ xs. r ∷ xs) e

used_if : (r : Record) → not (is_free r) ≡ true → is_free r ≡ false
used_if r e = grind arith

apart_held : (volumes : List ℕ) (records : List Record) (bytes : ℕ → List ℕ) → AreRecords volumes records → AreApart (copies_from 0 records bytes)
apart_held volumes records bytes are = apart_by key (copies_from 0 records bytes)
    (subst AreApart (sym (keys_held 0 records bytes)) (apart-filter (λ r. not (is_free r)) records (λ i j r e f g. are.once i j r f g (used_record r (used_if r e)))))

-- ## bytes

-- the slot of a copy has its bytes
pub slot_bytes : (told : Option (List (List ℕ))) (blocks : List (List ℕ)) (records : List Record) (v n : ℕ) (sets : List ℕ) (h : History) (slot : ℕ) (c : Copy)
    → IsVolume told (Some blocks) records v n sets h → is_some told ≡ true → slice_get records slot ≡ Some (key c) → Has c (copies_of v n h.writes h.images)
    → slice_index_or blocks (place_of_slot (length records) slot) [] ≡ c.bytes
slot_bytes told blocks records v n sets h slot c is tells at m =
    let of = is-copy v n h.writes h.images c m in
    let row : slice_get records slot ≡ Some (record_of v of.image.set c.block) = at ∙ ap (λ (x : Copy). Some (key x)) (sym of.is) in
    let found = is.copied slot of.image.set c.block of.image.point row (point_of (length h.writes) h.images of.image of.newer is.images.in_time of.stands) tells in
    get_or_from_slice_get blocks (place_of_slot (length records) slot) (content h.writes of.image.point c.block) [] found ∙ ap (λ (x : Copy). x.bytes) of.is

-- ## the group

held_told : {D : Type 0} (told : D → Option (List (List ℕ))) (g : GroupValue D) (hs : List History) (t : Option (List (List ℕ))) → told g.area.device ≡ t → StandsFor told g hs
    → AreRecords g.area.volumes g.area.records
    → ((v : ℕ) (d : D) → slice_get g.devices v ≡ Some d → is_some (told d) ≡ true) → AreHeld t g.area.records (copies (placed g.area.volumes) hs)
held_told told g hs None e stands are tells = tt
held_told told g hs (Some blocks) e stands are tells =
    let bytes : ℕ → List ℕ = λ slot. slice_index_or blocks (place_of_slot (length g.area.records) slot) [] in
    permuted (copies_from 0 g.area.records bytes) (copies (placed g.area.volumes) hs)
    (apart_held g.area.volumes g.area.records bytes are)
    (apart_by key (copies (placed g.area.volumes) hs) (apart-group 0 g.area.volumes hs (images_in_time told g hs stands)))
    (λ c m.
    let of = is-held 0 g.area.records bytes c m in
    let used = are.each of.at of.row of.row_is (used_record of.row of.used) in
    let its = history_of g.area.volumes hs of.row.volume stands.histories used.volume in
    let one = one_of told g hs of.row.volume its.0 its.1 stands its.2 its.3 in
    let there = copy_there (told_in (told g.area.device) (told one.device)) (told g.area.device) g.area.records of.row.volume its.0 one.sets its.1 of.at of.row one.volume of.row_is refl used.set
    (within g.area.volumes g.area.records of.at its.0 of.row.volume of.row are its.2 of.row_is refl used.set) in
    let x = from-map key of.row (copies_of of.row.volume its.0 its.1.writes its.1.images) there in
    let P : Option (List (List ℕ)) → Type 0 = λ s. IsVolume (told_in s (told one.device)) s g.area.records of.row.volume its.0 one.sets its.1 in
    let same_bytes = slot_bytes (told one.device) blocks g.area.records of.row.volume its.0 one.sets its.1 of.at x.0 (subst P e one.volume) (tells of.row.volume one.device one.device_is)
    (of.row_is ∙ ap (λ (r : Record). Some r) (sym x.2)) x.1 in
    let zero_more : 0 + of.at ≡ of.at = omega arith in
    let same : x.0 ≡ c = ap (λ b. held (key x.0) b) (sym same_bytes) ∙ ap (λ r. held r (bytes of.at)) x.2 ∙ ap (λ k. held of.row (bytes k)) (sym zero_more) ∙ of.is in
    let Q : Copy → Type 0 = λ y. Has y (copies (placed g.area.volumes) hs) in
    let volume : of.row.volume ≡ 0 + of.row.volume = omega arith in
    subst Q same (has-group-copy 0 g.area.volumes hs of.row.volume its.0 its.1 x.0 its.2 its.3 (subst (λ u. Has x.0 (copies_of u its.0 its.1.writes its.1.images)) volume x.1)))
    (λ c m.
    let of = is-group-copy 0 g.area.volumes hs c m in
    let one = one_of told g hs of.at of.blocks of.history stands of.blocks_is of.history_is in
    let volume : 0 + of.at ≡ of.at = omega arith in
    let has = subst (λ u. Has c (copies_of u of.blocks of.history.writes of.history.images)) volume of.has in
    let its = record_there (told_in (told g.area.device) (told one.device)) (told g.area.device) g.area.records of.at of.blocks one.sets of.history c one.volume has in
    let P : Option (List (List ℕ)) → Type 0 = λ s. IsVolume (told_in s (told one.device)) s g.area.records of.at of.blocks one.sets of.history in
    let same_bytes = slot_bytes (told one.device) blocks g.area.records of.at of.blocks one.sets of.history its.slot c (subst P e one.volume) (tells of.at one.device one.device_is) its.at has in
    let zero_more : 0 + its.slot ≡ its.slot = omega arith in
    let same : held (key c) (bytes (0 + its.slot)) ≡ c = ap (λ k. held (key c) (bytes k)) zero_more ∙ ap (λ b. held (key c) b) same_bytes in
    let Q : Copy → Type 0 = λ y. Has y (copies_from 0 g.area.records bytes) in
    subst Q same (has-held 0 g.area.records bytes its.slot (key c) its.at (record_is_used (key c) its.above)))

-- where all devices tell, the slots hold the copies of the definitions, each once
pub held_copies : {D : Type 0} (told : D → Option (List (List ℕ))) (g : GroupValue D) (hs : List History) → StandsFor told g hs → AreRecords g.area.volumes g.area.records
    → ((v : ℕ) (d : D) → slice_get g.devices v ≡ Some d → is_some (told d) ≡ true) → AreHeld (told g.area.device) g.area.records (copies (placed g.area.volumes) hs)
held_copies told g hs stands are tells = held_told told g hs (told g.area.device) refl stands are tells

-- ## A group that is taken up again stands for the histories for which its parts stand; and a synced group leaves such parts.

-- ## members of a list in another order

has_contains : {X : Type 0} (x : X) (xs : List X) → Has x xs → Contains xs x
has_contains x [] h = absurd h
has_contains x (y ∷ ys) (inl e) = (0, omega arith, e)
has_contains x (y ∷ ys) (inr h) = let at = has_contains x ys h in (suc at.0, (let l = at.1 in omega arith), at.2)

contains_has : {X : Type 0} (x : X) (xs : List X) (k : ℕ) → k < length xs → get_or xs k x ≡ x → Has x xs
contains_has x [] k l e = absurd (omega arith)
contains_has x (y ∷ ys) zero l e = inl e
contains_has x (y ∷ ys) (suc k) l e = inr (contains_has x ys k (omega arith) e)

moved : {X : Type 0} (x : X) (xs ys : List X) → IsPermutation xs ys → Has x xs → Has x ys
moved x xs ys same h = let at = Contains-permutation xs ys x same (has_contains x xs h) in contains_has x ys at.0 at.1 at.2

-- ## one volume

abbrev slot_in : List (List ℕ) → List Record → ℕ → List ℕ
slot_in blocks records slot = slice_index_or blocks (place_of_slot (length records) slot) []

-- the copy of a record of volume v is one of the definitions' for the volume
record ItsCopy (blocks : List (List ℕ)) (records : List Record) (v n : ℕ) (h : History) (slot set b : ℕ) : Type 0 where
  has : Has (held (record_of v set b) (slot_in blocks records slot)) (copies_of v n h.writes h.images)

its_copy : (volumes : List ℕ) (hs : List History) (blocks : List (List ℕ)) (records : List Record) (v n : ℕ) (h : History) (slot set b : ℕ)
    → IsPermutation (copies_from 0 records (slot_in blocks records)) (copies (placed volumes) hs)
    → slice_get volumes v ≡ Some n → slice_get hs v ≡ Some h → 0 < set → slice_get records slot ≡ Some (record_of v set b) → ItsCopy blocks records v n h slot set b
its_copy volumes hs blocks records v n h slot set b same at is above row =
    let bytes : ℕ → List ℕ = slot_in blocks records in
    let c : Copy = held (record_of v set b) (bytes slot) in
    let here = has-held 0 records bytes slot (record_of v set b) row (record_is_used (record_of v set b) above) in
    let zero_more : 0 + slot ≡ slot = omega arith in
    let there = moved c (copies_from 0 records bytes) (copies (placed volumes) hs) same (subst (λ k. Has (held (record_of v set b) (bytes k)) (copies_from 0 records bytes)) zero_more here) in
    let of = is-group-copy 0 volumes hs c there in
    let volume : 0 + of.at ≡ v = copy-volume (0 + of.at) of.blocks of.history.writes of.history.images c of.has in
    let place : of.at ≡ v = omega arith in
    let blocks_are : of.blocks ≡ n = same_Some of.blocks n (sym of.blocks_is ∙ ap (slice_get volumes) place ∙ at) in
    let history_is : of.history ≡ h = same_Some of.history h (sym of.history_is ∙ ap (slice_get hs) place ∙ is) in
    let P : History → Type 0 = λ x. Has c (copies_of v n x.writes x.images) in
    record {
      has = subst P history_is
          (subst (λ k. Has c (copies_of v k of.history.writes of.history.images)) blocks_are (subst (λ u. Has c (copies_of u of.blocks of.history.writes of.history.images)) volume of.has));
    }

get_of : (blocks : List (List ℕ)) (place : ℕ) → place < length blocks → slice_get blocks place ≡ Some (slice_index_or blocks place [])
get_of blocks place l = let at = slice_get_inside blocks place l in at.1 ∙ ap (λ (x : List ℕ). Some x) (sym (get_or_from_slice_get blocks place at.0 [] at.1))

kept_volume : (told : Option (List (List ℕ))) (volumes : List ℕ) (hs : List History) (blocks : List (List ℕ)) (records : List Record) (v n : ℕ) (sets : List ℕ) (h : History)
    → IsVolumeKept told n sets h → IsPermutation (copies_from 0 records (slot_in blocks records)) (copies (placed volumes) hs)
    → length blocks ≡ blocks_for (length records) → slice_get volumes v ≡ Some n → slice_get hs v ≡ Some h → IsVolume told (Some blocks) records v n sets h
kept_volume told volumes hs blocks records v n sets h kept same long at is = record {
  blocks = kept.blocks;
  sets_are = kept.sets_are;
  images = kept.images;
  named = λ slot set b above row.
      let its = its_copy volumes hs blocks records v n h slot set b same at is above row in
      let of = is-copy v n h.writes h.images (held (record_of v set b) (slot_in blocks records slot)) its.has in
      let set_is : of.image.set ≡ set = ap (λ (x : Copy). x.set) of.is in
      ap (λ s. is_named h.writes h.images s b) (sym set_is) ∙ named_of (length h.writes) h.writes h.images of.image of.newer b kept.images.in_time of.stands ∙ of.named;
  recorded = λ set b low name.
      let o = of_named h.writes set b h.images name in
      let since = sym (named_of (length h.writes) h.writes h.images o.image o.newer b kept.images.in_time o.stands) ∙ ap (λ s. is_named h.writes h.images s b) o.set_is ∙ name in
      let c = copy_of v h.writes o.image b in
      let zero_more : v ≡ 0 + v = omega arith in
      let there = has-group-copy 0 volumes hs v n h c at is (subst (λ u. Has c (copies_of u n h.writes h.images)) zero_more (has-copy v n h.writes h.images o.image o.newer b o.stands low since)) in
      let here = is-held 0 records (slot_in blocks records) c
      (moved c (copies (placed volumes) hs) (copies_from 0 records (slot_in blocks records))
      (IsPermutation-sym (copies_from 0 records (slot_in blocks records)) (copies (placed volumes) hs) same) there) in
      let row_is : here.row ≡ record_of v set b = ap key here.is ∙ ap (λ s. record_of v s b) o.set_is in
      (here.at, here.row_is ∙ ap (λ (r : Record). Some r) row_is);
  copied = λ slot set b p row point tells.
      let o = of_point set p h.images point in
      let above_it = above_zero h.images o.image o.newer kept.images.above_zero o.stands in
      let set_of = o.set_is in
      let above : 0 < set = omega arith in
      let its = its_copy volumes hs blocks records v n h slot set b same at is above row in
      let of = is-copy v n h.writes h.images (held (record_of v set b) (slot_in blocks records slot)) its.has in
      let set_is : of.image.set ≡ set = ap (λ (x : Copy). x.set) of.is in
      let bytes_are : content h.writes of.image.point b ≡ slot_in blocks records slot = ap (λ (x : Copy). x.bytes) of.is in
      let point_is : of.image.point ≡ p = same_Some of.image.point p
      (sym (point_of (length h.writes) h.images of.image of.newer kept.images.in_time of.stands) ∙ ap (λ s. point_in s h.images) set_is ∙ point) in
      let inside = slice_get_within records slot (record_of v set b) row in
      get_of blocks (place_of_slot (length records) slot) (omega arith) ∙ ap (λ (x : List ℕ). Some x) (sym bytes_are ∙ ap (λ k. content h.writes k b) point_is);
}

-- ## the group

kept_told : {D : Type 0} (told : D → Option (List (List ℕ))) (devices : List D) (area : AreaValue D) (images : List (List ℕ)) (hs : List History) (t : Option (List (List ℕ))) → told area.device ≡ t
    → AreKept told devices area images hs → length devices ≡ length area.volumes → length images ≡ length area.volumes
    → IfSome t (λ blocks. length blocks ≡ blocks_for (length area.records))
    → IfSome t (λ blocks. IsPermutation (copies_from 0 area.records (slot_in blocks area.records)) (copies (placed area.volumes) hs))
    → StandsFor told (record { devices = devices; area = area; images = images }) hs
kept_told told devices area images hs None e kept many lists long held = absurd (grind (arith, kept.tells))
kept_told told devices area images hs (Some blocks) e kept many lists long held = record {
  devices = many;
  images = lists;
  histories = kept.histories;
  each = λ v n d sets h at device row is.
      let P : Option (List (List ℕ)) → Type 0 = λ s. IsVolume (told_in s (told d)) s area.records v n sets h in
      subst P (sym e) (kept_volume (told d) area.volumes hs blocks area.records v n sets h (kept.each v n d sets h at device row is) held long at is);
}

-- the parts stand for histories, and so does the group
pub kept_stands : {D : Type 0} (told : D → Option (List (List ℕ))) (size : D → ℕ) (devices : List D) (area : AreaValue D) (images : List (List ℕ)) (hs : List History)
    → AreKept told devices area images hs → map size devices ≡ area.volumes → length images ≡ length area.volumes
    → size area.device ≡ blocks_for (length area.records) → IfSome (told area.device) (AreBlocks (size area.device)) → StandsFor told (record { devices = devices; area = area; images = images }) hs
kept_stands told size devices area images hs kept fits lists long whole =
    kept_told told devices area images hs (told area.device) refl kept (sym (length-map devices size) ∙ ap length fits) lists (long_if (told area.device) whole) kept.held where
      long_if : (t : Option (List (List ℕ))) → IfSome t (AreBlocks (size area.device)) → IfSome t (λ blocks. length blocks ≡ blocks_for (length area.records))
      long_if None w = tt
      long_if (Some blocks) w = w.number ∙ long

-- ## what a synced group leaves

volume_kept : (told slots : Option (List (List ℕ))) (records : List Record) (v n : ℕ) (sets : List ℕ) (h : History) → IsVolume told slots records v n sets h → IsVolumeKept told n sets h
volume_kept told slots records v n sets h is = record { blocks = is.blocks; sets_are = is.sets_are; images = is.images }

tells_both : (slots told : Option (List (List ℕ))) → is_some slots ≡ true → told_in slots told ≡ told
tells_both slots told e = grind arith

pub synced_kept : {D : Type 0} (ghosts : Ghosts D) (old new : GroupValue D) (area : AreaValue D) (hs : List History)
    → IsSync ghosts old new (Ok tt) → StandsFor ghosts.told old hs → AllTell ghosts.told old.devices → is_some (ghosts.told old.area.device) ≡ true
    → area.volumes ≡ new.area.volumes → ghosts.told area.device ≡ ghosts.told new.area.device
    → ((cs : List Copy) → AreStored (ghosts.told new.area.device) cs → AreHeld (ghosts.told area.device) area.records cs)
    → AreKept ghosts.told new.devices area new.images hs
synced_kept {D = D} ghosts old new area hs sync stands all tells volumes same loaded =
    let kept = sync.0.kept in
    let volumes_are : area.volumes ≡ old.area.volumes = volumes ∙ kept.volumes in
    record {
      histories = stands.histories ∙ ap length (sym volumes_are);
      each = λ v n d sets h at device row is.
          let volume = stands.each v n d sets h (ap (λ (ns : List ℕ). slice_get ns v) (sym volumes_are) ∙ at) (ap (λ (ds : List D). slice_get ds v) (sym sync.0.devices) ∙ device)
          (ap (λ (ss : List (List ℕ)). slice_get ss v) (sym sync.0.images) ∙ row) is in
          volume_kept (ghosts.told d) (ghosts.told old.area.device) old.area.records v n sets h
          (subst (λ (t : Option (List (List ℕ))). IsVolume t (ghosts.told old.area.device) old.area.records v n sets h) (tells_both (ghosts.told old.area.device) (ghosts.told d) tells) volume);
      tells = ap is_some same ∙ kept.area.tells ∙ tells;
      held = subst (λ (ns : List ℕ). AreHeld (ghosts.told area.device) area.records (copies (placed ns) hs)) (sym volumes_are) (loaded (copies (placed old.area.volumes) hs) (sync.1 hs stands all));
    }
