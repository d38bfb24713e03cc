-- A call on the device of one volume: what it leaves of the list of devices, and what the steps of a call leave of a group.
use Rattle.std.proofs.Common.{◌≡◌, ◌<◌, ℕ, true, false, List, length, map, take, drop, ◌++◌, refl, ap, sym, subst, ◌∙◌, arith, Option, Some, None, zero, suc}
use Rattle.std.proofs.Common.{◌≤◌, [], ◌∷◌, slice_get, slice_set, get_or}
use Rattle.std.proofs.lemmas.List.{length-map, take_at, length-set, map-set}
use Rattle.std.proofs.lemmas.Option.{slice_get_read, slice_get_within, slice_get-map, none-some, same_Some}
use Rattle.std.specs.Prelude.{Result, OnOk, OnErr, is_err, is_some, IsNone, option_map, IfSome, Ok, Err}
use Rattle.vss_names.specs.Faults.{HasCause, Rose}
use Rattle.block_data.specs.BlockBytes.{overwritten}
use Rattle.volume_device.specs.declared.device.Device.{Ghosts}
use Rattle.diff_area.proofs.ByPlace.{get-set}
use Rattle.cow_volume.specs.Calls.{IsSeen, StillLasts, blocks_in, IsSameDevice, IsKept, VolumeRose, blocks_at}
use Rattle.cow_volume.specs.Changes.{IsInVolume}
use Rattle.cow_volume.specs.Parts.{group_of, size_at, IsCalled, IsRead, IsPut, CopiesValue}
use Rattle.cow_volume.specs.Steps.{IsOn, IsAreaOn, IsCopy, IsSlotCopy, RoseBy, put}
use Rattle.cow_volume.specs.declared.cause.Cause.{Cause}
use Rattle.cow_volume.proofs.Group.{slice_get_inside, slice_set-same}
use Rattle.cow_volume.proofs.Kept.{same_itself}
use Rattle.cow_volume.proofs.Reading.{group_seen_there}

-- ## A call on the device of one volume: what it leaves of the list of devices.

pub on_ok : {T E : Type 0} (r : Result T E) (P : Type 0) → OnOk r P → is_err r ≡ false → P
on_ok r x1 h e = grind arith

pub on_err : {T E : Type 0} (r : Result T E) (P : Type 0) → OnErr r P → is_err r ≡ true → P
on_err r x1 h e = grind arith

some_within : {X : Type 0} (xs : List X) (k : ℕ) → is_some (slice_get xs k) ≡ true → k < length xs
some_within xs k e = grind (arith, slice_get_within)

pub size_within : {D : Type 0} (size : D → ℕ) (devices : List D) (v b : ℕ) → b < size_at size devices v → v < length devices
size_within size devices v b l =
    let long = length-map devices size in
    let inside = some_within (map size devices) v (grind arith) in
    omega arith

-- a device has as many blocks as its volume
pub size_row : {D : Type 0} (size : D → ℕ) (devices : List D) (volumes : List ℕ) (v : ℕ) (d : D) → map size devices ≡ volumes → slice_get devices v ≡ Some d → slice_get volumes v ≡ Some (size d)
size_row size devices volumes v d sizes at = ap (λ (ns : List ℕ). slice_get ns v) (sym sizes) ∙ slice_get-map size devices v ∙ ap (option_map size) at

-- the device that is called
pub device_read : {D : Type 0} (devices : List D) (v : ℕ) (d : D) → v < length devices → d ≡ get_or devices v d → slice_get devices v ≡ Some d
device_read devices v d l is = slice_get_read devices (length devices) v d refl l is

abbrev pub called : {D E : Type 0} (ghosts : Ghosts D) (v : ℕ) (devices : List D) (before after : D) (r : Result Unit E)
    → slice_get devices v ≡ Some before
    → is_some (ghosts.told after) ≡ is_some (ghosts.told before) → ghosts.size after ≡ ghosts.size before → ghosts.lending after ≡ ghosts.lending before
    → HasCause (ghosts.count before) (ghosts.count after) r
    → IsCalled ghosts v devices (slice_set devices v after) (is_err r)
called ghosts v devices before after r at tells size_is lends cause = record {
  before = before;
  after = after;
  was = at;
  devices = refl;
  same = record { tells = tells; size_is = size_is; lends = lends; later = cause.later };
  rose = cause.rose;
  unfailed = on_ok r (ghosts.count after ≡ ghosts.count before) cause.same;
}

-- a device that tells what it told, and of which the same lasts
pub still_lasts : {D : Type 0} (ghosts : Ghosts D) (old new : D) → ghosts.told new ≡ ghosts.told old → ghosts.lasting new ≡ ghosts.lasting old → StillLasts ghosts old new
still_lasts ghosts old new told lasting h = lasting ∙ h ∙ sym told

-- after a flush that was refused, and after an accepted one
pub flush_lasts : {D E : Type 0} (ghosts : Ghosts D) (old new : D) (r : Result Unit E) → ghosts.told new ≡ ghosts.told old → OnOk r (ghosts.lasting new ≡ ghosts.told new)
    → OnErr r (ghosts.lasting new ≡ ghosts.lasting old) → StillLasts ghosts old new
flush_lasts ghosts old new r told ok err = grind (arith, still_lasts)

pub device_put : {D E : Type 0} (ghosts : Ghosts D) (v b : ℕ) (bytes : List ℕ) (devices : List D) (before after : D) (r : Result Unit E)
    → slice_get devices v ≡ Some before
    → OnOk r (ghosts.told after ≡ option_map (λ blocks. slice_set blocks b bytes) (ghosts.told before)) → OnErr r (ghosts.told after ≡ ghosts.told before)
    → ghosts.size after ≡ ghosts.size before → ghosts.lending after ≡ ghosts.lending before
    → OnErr r (ghosts.lasting after ≡ ghosts.lasting before)
    → HasCause (ghosts.count before) (ghosts.count after) r
    → IsPut ghosts v b bytes devices (slice_set devices v after) (is_err r)
device_put ghosts v b bytes devices before after r at written kept size_is lends lasting cause = record {
  call = called ghosts v devices before after r at (grind arith) size_is lends cause;
  written = on_ok r (ghosts.told after ≡ option_map (λ blocks. slice_set blocks b bytes) (ghosts.told before)) written;
  kept = on_err r (ghosts.told after ≡ ghosts.told before) kept;
  still = λ failed. still_lasts ghosts before after (on_err r _ kept failed) (on_err r _ lasting failed);
}

-- ## what a call answered

pub some_weaker : {X : Type 0} (o : Option X) (P Q : X → Type 0) → IfSome o P → ((x : X) → P x → Q x) → IfSome o Q
some_weaker o x1 x2 h f = grind arith

pub if_some : {X : Type 0} (o : Option X) (P : X → Type 0) (x : X) → o ≡ Some x → IfSome o P → P x
if_some o P x e h = subst (λ (q : Option _). IfSome q P) e h

pub is_none : {X : Type 0} (o : Option X) → o ≡ None → IsNone o
is_none o e = ap is_some e

pub in_range_of : (volumes : List ℕ) (v b n : ℕ) → slice_get volumes v ≡ Some n → b < n → b < blocks_in (slice_get volumes v)
in_range_of volumes v b n at l = subst (λ (o : Option ℕ). b < blocks_in o) (sym at) l

-- the device of a volume that has a block
pub device_with : {D : Type 0} (size : D → ℕ) (devices : List D) (volumes : List ℕ) (v b : ℕ) → map size devices ≡ volumes → b < blocks_in (slice_get volumes v)
    → (d : D) × (slice_get devices v ≡ Some d)
device_with size devices volumes v b sizes l = grind (arith, slice_get_inside, size_within)

-- what was read of a volume's device is what is seen, where no slot has that
pub read_is_seen : {D : Type 0} (ghosts : Ghosts D) (devices new : List D) (copies : CopiesValue D) (v : ℕ) (set : Option ℕ) (b : ℕ) (bytes : List ℕ)
    → b < blocks_in (slice_get copies.area.volumes v)
    → IsRead ghosts v b bytes devices new false → IsInVolume copies.area.records v set b → IsSeen ghosts.told (group_of devices copies) v set b bytes
read_is_seen ghosts devices new copies v set b bytes l read none = grind (arith, group_seen_there)

-- a buffer that was filled has what it was filled with
pub filled : (out old : List ℕ) → length out ≡ length old → take (length old) (out ++ drop (length out) old) ≡ out
filled out old e = ap (λ (k : ℕ). take k (out ++ drop (length out) old)) (sym e) ∙ take_at out (drop (length out) old) (length out) refl

-- ## What the steps of a call leave of a group.

module _ {D : Type 0} (ghosts : Ghosts D) where
  pub same_on : (d e : D) (now : Option (List (List ℕ))) → IsOn ghosts d e now → is_some now ≡ is_some (ghosts.told d) → IsSameDevice ghosts d e
  same_on d e now on tells = record { tells = ap is_some on.tells ∙ tells; size_is = on.size_is; lends = on.lends; later = on.later }

  -- one device and the area's changed
  pub kept : (devices : List D) (v : ℕ) (d e : D) (old new : CopiesValue D) → slice_get devices v ≡ Some d → IsSameDevice ghosts d e
      → IsSameDevice ghosts old.area.device new.area.device → new.area.volumes ≡ old.area.volumes → length new.area.records ≡ length old.area.records
      → IsKept ghosts (group_of devices old) (group_of (slice_set devices v e) new)
  kept devices v d e old new at same area volumes slots = grind (arith, length-set, get-set, same_Some, same_itself)

  pub told_set : (devices : List D) (v : ℕ) (d e : D) → slice_get devices v ≡ Some d → ghosts.told e ≡ ghosts.told d → map ghosts.told (slice_set devices v e) ≡ map ghosts.told devices
  told_set devices v d e at same = map-set ghosts.told devices v e ∙ ap (λ (t : Option (List (List ℕ))). slice_set (map ghosts.told devices) v t) same
      ∙ slice_set-same (map ghosts.told devices) v (ghosts.told d) (mapped devices v at) where
        mapped : (ds : List D) (k : ℕ) → slice_get ds k ≡ Some d → slice_get (map ghosts.told ds) k ≡ Some (ghosts.told d)
        mapped [] k h = absurd (none-some d h)
        mapped (x ∷ ds) zero h = ap (λ (y : D). Some (ghosts.told y)) (same_Some x d h)
        mapped (x ∷ ds) (suc k) h = mapped ds k h

  pub volume_rose : (devices : List D) (v : ℕ) (d e : D) (old new : CopiesValue D) → slice_get devices v ≡ Some d
      → Rose (ghosts.count d) (ghosts.count e) → ghosts.count new.area.device ≡ ghosts.count old.area.device
      → VolumeRose ghosts.count v (group_of devices old) (group_of (slice_set devices v e) new)
  volume_rose devices v d e old new at rose area = record { before = d; now = e; was = at; is = set_here devices v at; rose = rose; devices = map-set ghosts.count devices v e; area = area } where
    set_here : (ds : List D) (k : ℕ) → slice_get ds k ≡ Some d → slice_get (slice_set ds k e) k ≡ Some e
    set_here [] k h = absurd (none-some d h)
    set_here (x ∷ ds) zero h = refl
    set_here (x ∷ ds) (suc k) h = set_here ds k h

-- a volume's device, and how many blocks it has
pub device_at : {D : Type 0} (size : D → ℕ) (devices : List D) (volumes : List ℕ) (v : ℕ) (d : D) → map size devices ≡ volumes → v < length volumes → d ≡ get_or devices v d
    → slice_get devices v ≡ Some d
device_at size devices volumes v d fits within is = grind (arith, length-map, slice_get_read)

-- a device of the same size in its place
pub fits_set : {D : Type 0} (size : D → ℕ) (devices : List D) (volumes : List ℕ) (v : ℕ) (d e : D) → map size devices ≡ volumes → slice_get devices v ≡ Some d → size e ≡ size d
    → map size (slice_set devices v e) ≡ volumes
fits_set size devices volumes v d e fits at same = grind (arith, map-set, slice_set-same, size_row)

pub device_within : {D : Type 0} (size : D → ℕ) (devices : List D) (volumes : List ℕ) (v b : ℕ) (d : D) → map size devices ≡ volumes → slice_get devices v ≡ Some d
    → b < blocks_in (slice_get volumes v) → b < size d
device_within size devices volumes v b d fits at low = subst (λ (o : Option ℕ). b < blocks_in o) (size_row size devices volumes v d fits at) low

-- ## a block is copied

pub on_itself : {D : Type 0} (ghosts : Ghosts D) (d : D) → IsOn ghosts d d (ghosts.told d)
on_itself ghosts d = record { tells = refl; size_is = refl; lends = refl; later = omega arith }

pub area_itself : {D : Type 0} (ghosts : Ghosts D) (c : CopiesValue D) → IsAreaOn ghosts c c (ghosts.told c.area.device)
area_itself ghosts c = record { device = on_itself ghosts c.area.device; volumes = refl; records = refl; images = refl }

pub slot_copied : {D : Type 0} (ghosts : Ghosts D) (device new_device : D) (old new : CopiesValue D) (block slot : ℕ) (bytes : List ℕ)
    (r : Result Unit Cause) → IsOn ghosts device new_device (ghosts.told device) → ghosts.count new_device ≡ ghosts.count device
    → IfSome (ghosts.told device) (λ blocks. slice_get blocks block ≡ Some bytes) → IsSlotCopy ghosts old new slot bytes r
    → IsCopy ghosts device new_device old new block slot r
slot_copied ghosts device new_device old new block slot bytes
    (Ok done) on same read h = record { copy = bytes; read = read; device_on = on; area_on = h.0; device_same = same; area_same = h.1 }
slot_copied ghosts device new_device old new block slot bytes (Err cause) on same read h = record {
  device_on = on;
  area_on = h.area_on;
  rose = subst (λ (c : Cause). RoseBy ghosts.count device new_device old.area.device new.area.device c) (sym h.cause_is) (h.rose, same);
}

-- ## a block that was lent to be written

front : (xs ys : List ℕ) → take (length xs) (xs ++ ys) ≡ xs
front [] ys = refl
front (x ∷ xs) ys = ap (λ zs. x ∷ zs) (front xs ys)

-- all of it was written
pub whole_written : (block bytes : List ℕ) → length bytes ≡ length block → overwritten block bytes ≡ bytes
whole_written block bytes long = ap (λ (n : ℕ). take n (bytes ++ drop (length bytes) block)) (sym long) ∙ front bytes (drop (length bytes) block)

-- ## a block in its range

pub within_blocks : {D : Type 0} (devices : List D) (c : CopiesValue D) (v b n : ℕ) → slice_get c.area.volumes v ≡ Some n → b < n → b < blocks_at (group_of devices c) v
within_blocks devices c v b n at low = subst (λ (o : Option ℕ). b < blocks_in o) (sym at) low

pub past_blocks : {D : Type 0} (devices : List D) (c : CopiesValue D) (v b n : ℕ) → slice_get c.area.volumes v ≡ Some n → n ≤ b → blocks_at (group_of devices c) v ≤ b
past_blocks devices c v b n at le = subst (λ (o : Option ℕ). blocks_in o ≤ b) (sym at) le

pub put_tells : (at : ℕ) (bytes : List ℕ) (told : Option (List (List ℕ))) → is_some (put at bytes told) ≡ is_some told
put_tells at bytes told = grind arith
