-- What becomes of the records of a group's slots where a block is copied or an image goes, how many are used, and how they follow a map.
use Rattle.std.specs.List.{list_any}
use Rattle.std.specs.Prelude.{ℕ, ◌≡◌, ◌≤◌, Bool, List, map, ◌==◌, ◌&&◌, nat_lt, nat_le, if◌then◌else◌, Option, Some, None, slice_get, slice_set, count_by, []}
use Rattle.std.specs.Prelude.{◌∷◌}
use Rattle.diff_map.specs.declared.copied.Copied.{Copied}
use Rattle.diff_area.specs.Format.{free}
use Rattle.diff_area.specs.declared.table_record.Record.{Record}
use Rattle.cow_volume.specs.StandsFor.{record_of}

-- ## What becomes of the records of a group's slots where a block is copied or an image goes. (That the oldest images go
-- first where no slot is left is the Volume Shadow Copy Service's; the rules for the copies are this project's own.)

-- ## a copy more

-- a slot gets the record of a copy
abbrev pub noted : ℕ → Record → List Record → List Record
noted slot r records = slice_set records slot r

-- ## where a block of an image is found

-- The slot has the copy that the image of a set on volume v shows of block b: that of the first image, from the set's
-- own on to the newest, that has a copy of the block.
pub record IsFirstCopy (records : List Record) (v set b slot : ℕ) : Type 0 where
  pub image : ℕ
  pub is_noted : slice_get records slot ≡ Some (record_of v image b)
  pub from_set : set ≤ image
  pub first : (other newer : ℕ) → slice_get records other ≡ Some (record_of v newer b) → set ≤ newer → image ≤ newer

-- no image of volume v, from the set's own on, has a copy of block b: the volume itself has what the image shows
abbrev pub HasNoCopy : List Record → ℕ → ℕ → ℕ → Type 0
HasNoCopy records v set b = (slot image : ℕ) → slice_get records slot ≡ Some (record_of v image b) → set ≤ image → ⊥

-- likewise of what is shown of block b: a volume as it is now has it itself
abbrev pub IsInSlot : List Record → ℕ → Option ℕ → ℕ → ℕ → Type 0
IsInSlot records v None b slot = ⊥
IsInSlot records v (Some set) b slot = IsFirstCopy records v set b slot

abbrev pub IsInVolume : List Record → ℕ → Option ℕ → ℕ → Type 0
IsInVolume records v None b = Unit {0}
IsInVolume records v (Some set) b = HasNoCopy records v set b

-- ## an image that goes

abbrev pub is_of : ℕ → ℕ → Record → Bool
is_of v set r = (r.volume == v) && (r.set == set)

abbrev pub is_same_record : Record → Record → Bool
is_same_record r q = (r.set == q.set) && (r.block == q.block) && (r.volume == q.volume)

abbrev pub has_record : List Record → Record → Bool
has_record records r = list_any (is_same_record r) records

-- the copy of block b goes to the next older image, where there is one and it lacks the block; else its slot is free
abbrev pub handed_down : List Record → ℕ → Option ℕ → ℕ → Record
handed_down records v None b = free
handed_down records v (Some older) b = if has_record records (record_of v older b) then free else record_of v older b

-- the image of a set goes from volume v, whose next older image is this
abbrev pub merged_row : List Record → ℕ → Option ℕ → ℕ → Record → Record
merged_row records v older set r = if is_of v set r then handed_down records v older r.block else r

abbrev pub merged : ℕ → Option ℕ → ℕ → List Record → List Record
merged v older set records = map (merged_row records v older set) records

-- the copies of the images of volume v from a set on go
abbrev pub cleared_row : ℕ → ℕ → Record → Record
cleared_row v set r = if (r.volume == v) && nat_le set r.set then free else r

abbrev pub cleared : ℕ → ℕ → List Record → List Record
cleared v set records = map (cleared_row v set) records

-- the copies of the images of volume v up to a set go
abbrev pub gone_on_row : ℕ → ℕ → Record → Record
gone_on_row v up_to r = if (nat_lt 0 r.set && (r.volume == v)) && nat_le r.set up_to then free else r

abbrev pub gone_on : ℕ → ℕ → List Record → List Record
gone_on v up_to records = map (gone_on_row v up_to) records

-- the copies of all images of the group up to a set go
abbrev pub gone_row : ℕ → Record → Record
gone_row up_to r = if nat_le r.set up_to then free else r

abbrev pub gone_to : ℕ → List Record → List Record
gone_to up_to records = map (gone_row up_to) records

-- ## How many slots a volume's images use, by the records. (This project's own.)

-- the record is of a copy of volume v
abbrev pub is_on : ℕ → Record → Bool
is_on v r = (r.volume == v) && nat_lt 0 r.set

-- how many records are
abbrev pub count_on : ℕ → List Record → ℕ
count_on v records = count_by (is_on v) records

-- how many are of the image of a set on volume v
abbrev pub count_of : ℕ → ℕ → List Record → ℕ
count_of v set records = count_by (is_of v set) records

-- ## How the records of a volume follow its map: each record of the volume becomes that of the copy for which the map notes the slot
-- now, or free. (This project's own.)

abbrev pub record_for : ℕ → Option Copied → Record
record_for v None = free
record_for v (Some copied) = record_of v copied.set copied.block

abbrev pub followed_row : ℕ → Option Copied → Record → Record
followed_row v copied r = if nat_lt 0 r.set && (r.volume == v) then record_for v copied else r

-- the records of the first slots follow these rows of the map
abbrev pub followed : ℕ → List (Option Copied) → List Record → List Record
followed v [] records = records
followed v (copied ∷ copies) [] = []
followed v (copied ∷ copies) (r ∷ rs) = followed_row v copied r ∷ followed v copies rs
