-- The maps of a group in one arena, and what a contract sees of a `GroupMap`: the map of each volume. (This project's own.)
use Rattle.std.specs.Prelude.{ℕ, [], vec_capacity, ◌≡◌, ◌<◌, ◌≤◌, ◌+◌, ◌-◌, ◌^◌, ◌&&◌, List, Option, Some, None, nat_le, nat_lt, if◌then◌else◌, length}
use Rattle.std.specs.Prelude.{slice_index_or, map, All, AllPairs, true, false, replicate, slice_get, slice_set}
use Rattle.diff_map.specs.Copies.{copy_of, noted_in, HasCopy, MapValue, KeepsImages}
use Rattle.diff_map.specs.Counts.{KeepsCounts, IsPopped}
use Rattle.diff_map.specs.declared.copied.Copied.{Copied}
use Rattle.diff_map.specs.declared.entry.Entry.{Entry}
use Rattle.diff_map.specs.declared.handed_down.HandedDown.{HandedDown}
use Rattle.diff_map.specs.declared.of_volume.OfVolume.{OfVolume}

-- ## How the maps of a group stand in one arena: the blocks of all volumes are counted through, each volume has a part of them, and its
-- copies are those of its part. (This project's own.)

-- so many blocks from the first on
pub record Part : Type 0 where
  pub base : ℕ
  pub blocks : ℕ

abbrev pub part_of : OfVolume → Part
part_of volume = record { base = volume.base; blocks = volume.blocks }

-- what a copy is to the part that it is of; to every other part it is none
abbrev pub own : Part → Option Copied → Option Copied
own part None = None
own part (Some c) = if nat_le part.base c.block && nat_lt c.block (part.base + part.blocks) then Some (copy_of c.set (c.block - part.base)) else None

abbrev pub own_copies : OfVolume → List (Option Copied) → List (Option Copied)
own_copies volume copies = map (own (part_of volume)) copies

abbrev pub map_of : List (Option Copied) → OfVolume → MapValue
map_of copies volume = record { blocks = volume.blocks; images = volume.images.items; copies = own_copies volume copies }

-- each part ends before the next begins, and together they are so many blocks
pub record AreParts (blocks : ℕ) (parts : List Part) : Type 0 where
  pub apart : AllPairs (λ p q. p.base + p.blocks ≤ q.base) parts
  pub within : All (λ p. p.base + p.blocks ≤ blocks) parts
  pub all : (block : ℕ) → block < blocks
      → (k : ℕ) × (k < length parts) × ((p : Part) → (slice_index_or parts k p).base ≤ block) × ((p : Part) → block < (slice_index_or parts k p).base + (slice_index_or parts k p).blocks)
  pub narrow : blocks < 2 ^ 32

-- the images of a volume and their counts are those of its copies
pub record KeepsVolume (next : List ℕ) (copies : List (Option Copied)) (volume : OfVolume) : Type 0 where
  pub images : KeepsImages volume.images (own_copies volume copies)
  pub counts : KeepsCounts volume.images volume.counts next (own_copies volume copies)
  pub used : volume.used ≡ noted_in (own_copies volume copies)

pub record KeepsGroup (blocks : ℕ) (volumes : List OfVolume) (next : List ℕ) (copies : List (Option Copied)) : Type 0 where
  pub parts : AreParts blocks (map part_of volumes)
  pub each : All (KeepsVolume next copies) volumes

-- the volume has this part, and no image yet
pub record IsEmpty (base blocks : ℕ) (volume : OfVolume) : Type 0 where
  pub part : part_of volume ≡ record { base = base; blocks = blocks }
  pub used : volume.used ≡ 0
  pub images : volume.images.items ≡ []
  pub counts : volume.counts.items ≡ []
  pub image_room : 512 ≤ vec_capacity volume.images
  pub count_room : 512 ≤ vec_capacity volume.counts

-- ## What a contract sees of a `GroupMap`: the map of each volume, all over the same slots. A slot is noted for one volume at most.
-- (This project's own.)

-- the map of a volume of so many blocks over so many slots, without images
abbrev pub new_map : ℕ → ℕ → MapValue
new_map slots blocks = record { blocks = blocks; images = []; copies = replicate slots None }

-- the map of volume v
abbrev pub map_at : List MapValue → ℕ → MapValue
map_at maps v = slice_index_or maps v (record { blocks = 0; images = []; copies = [] })

abbrev pub with_images : List ℕ → MapValue → MapValue
with_images images m = record { blocks = m.blocks; images = images; copies = m.copies }

abbrev pub with_copies : List (Option Copied) → MapValue → MapValue
with_copies copies m = record { blocks = m.blocks; images = m.images; copies = copies }

-- a slot of the map has this copy now, or none
abbrev pub with_row : ℕ → Option Copied → MapValue → MapValue
with_row slot row m = with_copies (slice_set m.copies slot row) m

-- the slot is noted for no volume
abbrev pub IsUnnoted : List MapValue → ℕ → Type 0
IsUnnoted maps slot = (u : ℕ) (m : MapValue) → slice_get maps u ≡ Some m → slice_get m.copies slot ≡ Some None

-- the map of volume v may be another, and every other is as it was
abbrev pub IsOnlyAt : ℕ → List MapValue → List MapValue → Type 0
IsOnlyAt v old new = new ≡ slice_set old v (map_at new v)

-- a copy of the image was taken out, and the older image has it now where it lacked the block
pub record IsHandedDown (old new : MapValue) (older image : ℕ) (handed : HandedDown) : Type 0 where
  pub popped : IsPopped old (with_row handed.entry.slot None old) image handed.entry
  pub kept : handed.kept ≡ true → HasCopy (with_row handed.entry.slot None old).copies older handed.entry.block → ⊥
  pub kept_is : handed.kept ≡ true → new ≡ with_row handed.entry.slot (Some (copy_of older handed.entry.block)) (with_row handed.entry.slot None old)
  pub freed : handed.kept ≡ false → HasCopy (with_row handed.entry.slot None old).copies older handed.entry.block
  pub freed_is : handed.kept ≡ false → new ≡ with_row handed.entry.slot None old

-- the same where the older image has it
abbrev pub IsGivenDown : MapValue → MapValue → ℕ → ℕ → Entry → Type 0
IsGivenDown old new older image entry = IsHandedDown old new older image (record { entry = entry; kept = true })
