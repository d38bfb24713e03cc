-- The copies of a volume's old blocks, what a contract sees of a `DiffMap` over them, and in which copy an image finds a block.
use Rattle.std.specs.List.{list_any}
use Rattle.std.specs.Prelude.{ℕ, ◌≡◌, List, Option, Some, None, Bool, false, ◌==◌, ◌&&◌, slice_index_or, count_by, is_some, IsSome, ◌<◌, ◌≤◌, ◌-◌, ◌^◌, length}
use Rattle.std.specs.Prelude.{slice_index, All, AllPairs, Contains, Vec, vec_capacity, ◌≢◌}
use Rattle.std.specs.declared.alloc.Global.{Global}
use Rattle.slot_pool.specs.Slots.{IsTaken}
use Rattle.diff_map.specs.declared.copied.Copied.{Copied}

-- ## The copies of a volume's old blocks: for each slot of the diff area, in order of slots, the image and the block
-- for which it is noted, or None. An image is named by its snapshot set. That a block is copied before its first
-- overwrite is the Volume Shadow Copy Service's copy-on-write method; the rows are this project's own.

-- a copy of this block for the image of this set
abbrev pub copy_of : ℕ → ℕ → Copied
copy_of image block = record { set = image; block = block }

-- for what the slot is noted; None past the last slot
abbrev pub copied_at : List (Option Copied) → ℕ → Option Copied
copied_at copies slot = slice_index_or copies slot None

-- how many slots are noted
abbrev pub noted_in : List (Option Copied) → ℕ
noted_in copies = count_by is_some copies

-- some slot is noted for this block of the image
abbrev pub HasCopy : List (Option Copied) → ℕ → ℕ → Type 0
HasCopy copies image block = (slot : ℕ) × (copied_at copies slot ≡ Some (copy_of image block))

-- the same as a test
abbrev pub is_copy : ℕ → ℕ → Option Copied → Bool
is_copy image block None = false
is_copy image block (Some copied) = copied.set == image && copied.block == block

abbrev pub has_copy : List (Option Copied) → ℕ → ℕ → Bool
has_copy copies image block = list_any (is_copy image block) copies

-- each noted slot is taken in the pool
abbrev pub AllTaken : List (Option Copied) → List Bool → Type 0
AllTaken copies pool = (slot : ℕ) → IsSome (copied_at copies slot) → IsTaken pool slot

-- ## What a contract sees of a `DiffMap`, and what holds of each: the images ascend, each copy is of one of them and of
-- a block of the volume, and no two slots are noted for one block of one image. (This project's own.)

-- a volume's number of blocks, the sets of its images from the oldest on, and for each slot its copy
pub record MapValue : Type 0 where
  pub blocks : ℕ
  pub images : List ℕ
  pub copies : List (Option Copied)

-- the sets rise from the oldest image on, none is 0, and there are at most 512
pub record AreImages (images : List ℕ) : Type 0 where
  pub ascend : AllPairs (λ older newer. older < newer) images
  pub above_zero : All (λ image. (0 < image) × (image < 2 ^ 32)) images
  pub few : length images ≤ 512

-- the set of the newest image, 0 where there is none
abbrev pub newest : List ℕ → ℕ
newest images = slice_index images (length images - 1)

pub record IsMap (map : MapValue) : Type 0 where
  pub images : AreImages map.images
  pub of_images : (slot : ℕ) (copied : Copied) → copied_at map.copies slot ≡ Some copied → Contains map.images copied.set
  pub of_blocks : (slot : ℕ) (copied : Copied) → copied_at map.copies slot ≡ Some copied → copied.block < map.blocks
  pub once : (slot other : ℕ) (copied : Copied) → copied_at map.copies slot ≡ Some copied → copied_at map.copies other ≡ Some copied → slot ≡ other

-- what the images of a map keep: each copy is of one of them, and there is room for 512
pub record KeepsImages (images : Vec ℕ Global) (copies : List (Option Copied)) : Type 0 where
  pub are_images : AreImages images.items
  pub of_images : (slot : ℕ) (copied : Copied) → copied_at copies slot ≡ Some copied → Contains images.items copied.set
  pub image_room : 512 ≤ vec_capacity images

-- ## How an image finds a block: the chain of images from the asked one to the newest. The first of them that has a
-- copy of the block shows what the asked image holds there; where none has one, the volume itself does. (How
-- copy-on-write images share copies is this project's own.)

-- the slot is that of the first image, from the asked one on, that has the block
pub record IsFound (copies : List (Option Copied)) (asked block slot : ℕ) : Type 0 where
  pub image : ℕ
  pub noted : copied_at copies slot ≡ Some (copy_of image block)
  pub reached : asked ≤ image
  pub first : (other newer : ℕ) → copied_at copies other ≡ Some (copy_of newer block) → asked ≤ newer → image ≤ newer

-- no image from the asked one on has the block
abbrev pub IsAbsent : List (Option Copied) → ℕ → ℕ → Type 0
IsAbsent copies asked block = (slot image : ℕ) → copied_at copies slot ≡ Some (copy_of image block) → asked ≤ image → ⊥

-- each other image finds for each block what it found before
pub record KeepsFinds (old new : MapValue) (gone : ℕ) : Type 0 where
  pub found : (asked block slot : ℕ) → Contains old.images asked → asked ≢ gone → IsFound old.copies asked block slot → IsFound new.copies asked block slot
  pub absent : (asked block : ℕ) → Contains old.images asked → asked ≢ gone → IsAbsent old.copies asked block → IsAbsent new.copies asked block
