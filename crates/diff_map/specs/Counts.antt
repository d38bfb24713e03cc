-- Which slots hold copies for an image, and how many: a map keeps for each image the number of them and the first, from which each leads
-- to the next. (This project's own.)
use Rattle.std.specs.Prelude.{ℕ, ◌≡◌, ◌<◌, ◌≤◌, ◌⊎◌, Bool, false, ◌==◌, List, [], ◌∷◌, Option, Some, None, ⊤, length, map, count_by, slice_get, slice_set, slice_index, All, Vec, vec_capacity}
use Rattle.std.specs.List.{AllWithin}
use Rattle.std.specs.declared.alloc.Global.{Global}
use Rattle.diff_map.specs.declared.copied.Copied.{Copied}
use Rattle.diff_map.specs.declared.entry.Entry.{Entry}
use Rattle.diff_map.specs.declared.image_count.ImageCount.{ImageCount}
use Rattle.diff_map.specs.Copies.{copied_at, copy_of, MapValue}

-- the slot is noted for the image
abbrev pub is_for : ℕ → Option Copied → Bool
is_for image None = false
is_for image (Some copied) = copied.set == image

-- how many slots are
abbrev pub used_for : List (Option Copied) → ℕ → ℕ
used_for copies image = count_by (is_for image) copies

-- the image is the oldest that has a copy
pub record IsOldestUsed (copies : List (Option Copied)) (image : ℕ) : Type 0 where
  pub slot : ℕ
  pub block : ℕ
  pub row : copied_at copies slot ≡ Some (copy_of image block)
  pub oldest : (other : ℕ) (copied : Copied) → copied_at copies other ≡ Some copied → image ≤ copied.set

-- the slot that the entry names was noted for its block and this image, and no longer is
pub record IsPopped (old new : MapValue) (image : ℕ) (entry : Entry) : Type 0 where
  pub set_is : entry.set ≡ image
  pub noted : copied_at old.copies entry.slot ≡ Some (copy_of image entry.block)
  pub gone : new ≡ record { blocks = old.blocks; images = old.images; copies = slice_set old.copies entry.slot None }

-- ## the slots of an image, one after the other

abbrev pub IsAmong : ℕ → List ℕ → Type 0
IsAmong slot [] = ⊥
IsAmong slot (other ∷ slots) = (slot ≡ other) ⊎ IsAmong slot slots

abbrev pub AreOnce : List ℕ → Type 0
AreOnce [] = ⊤
AreOnce (slot ∷ slots) = (IsAmong slot slots → ⊥) × AreOnce slots

-- each leads to the next; where the last leads is not said
abbrev pub LeadOn : List ℕ → ℕ → List ℕ → Type 0
LeadOn next first [] = ⊤
LeadOn next first (slot ∷ slots) = (first ≡ slot) × LeadOn next (slice_index next slot) slots

-- the slot is noted for the image
abbrev pub IsFor : List (Option Copied) → ℕ → ℕ → Type 0
IsFor copies image slot = (block : ℕ) × (copied_at copies slot ≡ Some (copy_of image block))

-- from the first on the slots of the image stand, each once, and no other
pub record IsChain (next : List ℕ) (copies : List (Option Copied)) (image first : ℕ) : Type 0 where
  pub slots : List ℕ
  pub lead : LeadOn next first slots
  pub once : AreOnce slots
  pub each : (slot : ℕ) → IsAmong slot slots → IsFor copies image slot
  pub all : (slot : ℕ) → IsFor copies image slot → IsAmong slot slots

pub record IsCounted (next : List ℕ) (copies : List (Option Copied)) (count : ImageCount) : Type 0 where
  pub used : count.used ≡ used_for copies count.set
  pub chain : IsChain next copies count.set count.first

-- the counts are those of the images, and there is room for 512
pub record KeepsCounts (images : Vec ℕ Global) (counts : Vec ImageCount Global) (next : List ℕ) (copies : List (Option Copied)) : Type 0 where
  pub sets : map (λ c. c.set) counts.items ≡ images.items
  pub each : All (IsCounted next copies) counts.items
  pub count_room : 512 ≤ vec_capacity counts
  pub long : length next ≡ length copies

-- the image is the first of the list that has a copy
pub record IsFirstUsed (counts : List ImageCount) (image : ℕ) : Type 0 where
  pub place : ℕ
  pub count : ImageCount
  pub at : slice_get counts place ≡ Some count
  pub set_is : count.set ≡ image
  pub some : 0 < count.used
  pub none_before : AllWithin (λ c. c.used ≡ 0) counts 0 place
