-- The slots of a diff area: one truth value for each slot, in order of slots, which says whether the slot is free.
-- A slot is the place of one old block in the storage that the Volume Shadow Copy Service calls the diff area. That
-- the lowest free slot is taken first is this project's own.
use Rattle.std.specs.Prelude.{ℕ, ◌≡◌, ◌<◌, List, Bool, true, false, Some, slice_get, count_by, ◌*◌, ◌/◌, ◌^◌, length, slice_index_or}

-- the slot is one of these, and it is free
abbrev pub IsFree : List Bool → ℕ → Type 0
IsFree slots slot = slice_get slots slot ≡ Some true

-- the slot is one of these, and it is taken
abbrev pub IsTaken : List Bool → ℕ → Type 0
IsTaken slots slot = slice_get slots slot ≡ Some false

-- the slot is free, and each lower one is taken
pub record IsLowestFree (slots : List Bool) (slot : ℕ) : Type 0 where
  pub free : IsFree slots slot
  pub lowest : (other : ℕ) → other < slot → IsTaken slots other

-- how many are free
abbrev pub free_count : List Bool → ℕ
free_count slots = count_by (λ is_free. is_free) slots

-- ## How the pool finds the lowest free slot: it is known, and where it is taken, the next one is looked for in those runs of 256 slots
-- in which one may be free. (This project's own.)

-- whether the slot is free; no slot past the last is
abbrev pub free_at : List Bool → ℕ → Bool
free_at slots slot = slice_index_or slots slot false

abbrev pub AllTakenBelow : List Bool → ℕ → Type 0
AllTakenBelow slots end = (slot : ℕ) → slot < end → free_at slots slot ≡ false

-- all below are taken, and this one is free, where it is one of the slots
pub record IsFirst (slots : List Bool) (first : ℕ) : Type 0 where
  pub below : AllTakenBelow slots first
  pub free : first < length slots → free_at slots first ≡ true

-- each free slot is in a run that says so, and each slot is in a run
pub record MayBeFree (slots runs : List Bool) : Type 0 where
  pub says : (slot : ℕ) → free_at slots slot ≡ true → slice_index_or runs (slot / 256) false ≡ true
  pub covers : length slots < length runs * 256

pub record KeepsPool (slots runs : List Bool) (lowest free : ℕ) : Type 0 where
  pub first : IsFirst slots lowest
  pub may : MayBeFree slots runs
  pub count : free ≡ free_count slots
  pub narrow : length slots < 2 ^ 32
