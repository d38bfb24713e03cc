-- When a write needs a slot for a copy, and lacks it, by the records; and which images go so that it has one, in the order in which
-- they are told. (That the oldest go is the Volume Shadow Copy Service's; that those of the group's least set go together is this project's own.)
use Rattle.std.specs.Prelude.{ℕ, ◌≡◌, ◌<◌, ◌≤◌, ◌⊎◌, ◌+◌, Some, ◌==◌, ◌&&◌, not, Bool, true, false, List, [], ◌∷◌, length, map, filter, find, nat_lt, if◌then◌else◌, Option, None, slice_get}
use Rattle.std.specs.List.{flat_map, range_with_len}
use Rattle.write_history.specs.declared.evicted.Evicted.{Evicted}
use Rattle.write_history.specs.History.{History}
use Rattle.write_history.specs.Slots.{evicted_of}
use Rattle.diff_area.specs.Format.{used_in}
use Rattle.diff_area.specs.declared.table_record.Record.{Record}
use Rattle.diff_map.specs.Copies.{newest}
use Rattle.cow_volume.specs.StandsFor.{GroupValue, StandsFor, record_of}
use Rattle.cow_volume.specs.Changes.{has_record, gone_to}
use Rattle.cow_volume.specs.Calls.{IsEvicted, made_room, is_among, sets_at, sets_in}

-- the newest of these images of volume v lacks a copy of block b; where no image stands, none lacks one
abbrev pub lacks_copy : List Record → ℕ → List ℕ → ℕ → Bool
lacks_copy records v [] b = false
lacks_copy records v (set ∷ []) b = not (has_record records (record_of v set b))
lacks_copy records v (set ∷ next ∷ newer) b = lacks_copy records v (next ∷ newer) b

-- all slots are used
abbrev pub is_full : List Record → Bool
is_full records = used_in records == length records

-- a write of block b to volume v, which has these images, needs a slot for a copy, and all slots are used
abbrev pub lacks_slot : List Record → ℕ → List ℕ → ℕ → Bool
lacks_slot records v sets b = lacks_copy records v sets b && is_full records

-- the images of the sets up to this one are gone
abbrev pub after : ℕ → List ℕ → List ℕ
after up_to sets = filter (λ s. nat_lt up_to s) sets

-- the same on each volume
abbrev pub all_after : ℕ → List (List ℕ) → List (List ℕ)
all_after up_to images = map (after up_to) images

-- whether the write lacks its slot once the images of the sets up to this one are gone
abbrev pub lacks_after : List Record → List (List ℕ) → ℕ → ℕ → ℕ → Bool
lacks_after records images v b up_to = lacks_slot (gone_to up_to records) v (sets_in (slice_get (all_after up_to images) v)) b

-- images went up to this set, and no more than had to go for a write of block b to volume v
pub record IsRoomMade (records : List Record) (images : List (List ℕ)) (v b up_to : ℕ) : Type 0 where
  pub enough : lacks_after records images v b up_to ≡ false
  pub needed : (fewer : ℕ) → fewer < up_to → lacks_after records images v b fewer ≡ true

-- where all slots are used: the least set that has a copy, or the newest of these images, where that is less
pub record IsFirstToFree (records : List Record) (sets : List ℕ) (up_to : ℕ) : Type 0 where
  pub most : up_to ≤ newest sets
  pub least : (slot : ℕ) (r : Record) → slice_get records slot ≡ Some r → up_to ≤ r.set
  pub one : (up_to ≡ newest sets) ⊎ ((slot : ℕ) × (r : Record) × (slice_get records slot ≡ Some r) × (r.set ≡ up_to))

-- the set is that of the oldest image of volume v that has a copy
pub record IsOldest (records : List Record) (v set : ℕ) : Type 0 where
  pub slot : ℕ
  pub block : ℕ
  pub row : slice_get records slot ≡ Some (record_of v set block)
  pub oldest : (other : ℕ) (r : Record) → slice_get records other ≡ Some r → r.volume ≡ v → 0 < r.set → set ≤ r.set

-- the same, where an image has one
abbrev pub IsOldestOn : List Record → ℕ → Option ℕ → Type 0
IsOldestOn records v None = (slot : ℕ) (r : Record) → slice_get records slot ≡ Some r → r.volume ≡ v → 0 < r.set → ⊥
IsOldestOn records v (Some set) = IsOldest records v set

-- the lesser of a set and of another, where there is another
abbrev pub lesser : ℕ → Option ℕ → ℕ
lesser set None = set
lesser set (Some other) = if nat_lt other set then other else set

-- the group without the images of the sets up to this one, and without their copies
abbrev pub gone_group : {D : Type 0} → ℕ → GroupValue D → GroupValue D
gone_group up_to g = record {
  devices = g.devices;
  area = record { device = g.area.device; volumes = g.area.volumes; records = gone_to up_to g.area.records };
  images = all_after up_to g.images;
}

-- there is room for a write of block b to volume v: the images of the sets up to this one went, and no more than had to
pub record HasRoom {D : Type 0} (told : D → Option (List (List ℕ))) (old new : GroupValue D) (v b up_to : ℕ) : Type 0 where
  pub enough : lacks_slot new.area.records v (sets_at new v) b ≡ false
  pub needless : lacks_slot old.area.records v (sets_at old v) b ≡ false → up_to ≡ 0
  pub none : up_to ≡ 0 → new ≡ old
  pub left : new ≡ gone_group up_to old
  pub lacked : lacks_copy new.area.records v (sets_at new v) b ≡ true → lacks_copy old.area.records v (sets_at old v) b ≡ true
  pub evicted : (hs : List History) → StandsFor told old hs → IsEvicted old v b hs up_to
  pub stands : (hs : List History) → StandsFor told old hs → StandsFor told new (made_room old up_to hs)

-- ## the images that go

-- the volumes, numbered from v on, that have an image of set n
abbrev pub holders : ℕ → ℕ → List (List ℕ) → List ℕ
holders n v [] = []
holders n v (sets ∷ images) = if is_among n sets then v ∷ holders n (v + 1) images else holders n (v + 1) images

-- the images of the sets up to this one, in order of sets and then of volumes
abbrev pub images_going : ℕ → List (List ℕ) → List Evicted
images_going up_to images = flat_map (λ n. evicted_of n (holders n 0 images)) (range_with_len 1 up_to)

-- the first of these sets that is above one
abbrev pub first_above : ℕ → List ℕ → Option ℕ
first_above above sets = find (λ s. nat_lt above s) sets

-- a set is above one, and not above a bound, and no volume has an image of a set between
pub record IsNextSet (images : List (List ℕ)) (above up_to set : ℕ) : Type 0 where
  pub higher : above < set
  pub within : set ≤ up_to
  pub none : (n : ℕ) → above < n → n < set → holders n 0 images ≡ []
