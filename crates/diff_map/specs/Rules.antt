-- What becomes of each copy where an image goes, and of the slots in the pool. A volume's oldest image takes its
-- copies with it; another image's copies go to the next older image where that one lacks them. (The Volume Shadow
-- Copy Service deletes the oldest images first; the rules for the copies are this project's own.)
use Rattle.std.specs.Option.{option_and_then}
use Rattle.std.specs.Prelude.{ℕ, ◌≡◌, ◌⊎◌, List, Option, Some, None, Bool, ◌==◌, nat_lt, nat_le, if◌then◌else◌, length, map, slice_get, fold, IsSome, IsNone}
use Rattle.slot_pool.specs.Slots.{IsFree}
use Rattle.diff_map.specs.Copies.{copied_at, copy_of, has_copy}
use Rattle.diff_map.specs.declared.copied.Copied.{Copied}
use Rattle.diff_map.specs.declared.going.Going.{Going}
use Rattle.diff_map.specs.declared.going.Going.TheVariants.{Image, From, UpTo}

-- the rows where each copy becomes what the rule gives, or none
abbrev pub renewed : (Copied → Option Copied) → List (Option Copied) → List (Option Copied)
renewed rule copies = map (option_and_then rule) copies

-- the image's copies go
abbrev pub dropped : ℕ → Copied → Option Copied
dropped image copied = if copied.set == image then None else Some copied

-- the copies of the image and of each newer one go
abbrev pub cleared : ℕ → Copied → Option Copied
cleared image copied = if nat_le image copied.set then None else Some copied

-- the copies of the image and of each older one go
abbrev pub gone : ℕ → Copied → Option Copied
gone image copied = if nat_le copied.set image then None else Some copied

-- the greatest of the ascending images that is below this set
abbrev pub next_older : List ℕ → ℕ → Option ℕ
next_older images set = fold (λ older image. if nat_lt image set then Some image else older) None images

-- a copy that is given to the next older image, where there is one and it lacks the block
abbrev pub handed_down : List (Option Copied) → Option ℕ → ℕ → Option Copied
handed_down copies None block = None
handed_down copies (Some older) block = if has_copy copies older block then None else Some (copy_of older block)

-- the image's copies are handed down
abbrev pub merged : List (Option Copied) → Option ℕ → ℕ → Copied → Option Copied
merged copies older image copied = if copied.set == image then handed_down copies older copied.block else Some copied

-- each slot that was noted and no longer is, is free in the pool now; every other slot is in it as before
pub record GivesBack (before after : List (Option Copied)) (old new : List Bool) : Type 0 where
  pub freed : (slot : ℕ) → IsSome (copied_at before slot) → IsNone (copied_at after slot) → IsFree new slot
  pub others : (slot : ℕ) → IsNone (copied_at before slot) ⊎ IsSome (copied_at after slot) → slice_get new slot ≡ slice_get old slot
  pub slots : length new ≡ length old

-- ## Which images' copies go, and how far they have gone. (This project's own.)

abbrev pub takes : Going → ℕ → Bool
takes (Image image) set = set == image
takes (From oldest) set = nat_le oldest set
takes (UpTo newest) set = nat_le set newest

-- the copies that go become none
abbrev pub rule_of : Going → Copied → Option Copied
rule_of going copied = if takes going copied.set then None else Some copied

-- each row is as it was, or as the rule has it, and the slots whose rows became none went back
pub record IsRenewing (rule : Copied → Option Copied) (before after : List (Option Copied)) (old new : List Bool) : Type 0 where
  pub each : (slot : ℕ) → (copied_at after slot ≡ copied_at before slot) ⊎ (copied_at after slot ≡ option_and_then rule (copied_at before slot))
  pub long : length after ≡ length before
  pub gives : GivesBack before after old new
