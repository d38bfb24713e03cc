-- The noted slots as one ordered list, and how the copies of a block hang together. (This project's own.)
use Rattle.std.specs.Option.{option_map}
use Rattle.std.specs.Prelude.{ℕ, ◌≡◌, ◌<◌, ◌+◌, ◌*◌, ◌^◌, List, Option, Some, All, AllPairs, Contains, ◌≤◌, None, ◌==◌, if◌then◌else◌, length, slice_index}
use Rattle.std.specs.Prelude.{slice_index_or, slice_set, IfSome}
use Rattle.diff_map.specs.Copies.{copied_at, copy_of, HasCopy}
use Rattle.diff_map.specs.declared.copied.Copied.{Copied}
use Rattle.diff_map.specs.declared.entry.Entry.{Entry}
use Rattle.diff_map.specs.declared.row.Row.{Row}

-- ## The noted slots as one list of block, set and slot, in order of block and then of set, with one entry for each. (This project's own.)

-- where a block of a set stands in the order, as a number
abbrev pub place_of : ℕ → ℕ → ℕ
place_of block image = block * 4294967296 + image

abbrev pub place : Entry → ℕ
place entry = place_of entry.block entry.set

abbrev pub IsInOrder : List Entry → Type 0
IsInOrder entries = AllPairs (λ e f. place e < place f) entries

-- the entry is noted in its slot's row
pub record IsNoted (copies : List (Option Copied)) (entry : Entry) : Type 0 where
  pub row : copied_at copies entry.slot ≡ Some (copy_of entry.set entry.block)
  pub narrow : entry.set < 2 ^ 32

-- the list is in order, and has one entry for each noted slot
pub record IsIndex (entries : List Entry) (copies : List (Option Copied)) : Type 0 where
  pub in_order : IsInOrder entries
  pub each : All (IsNoted copies) entries
  pub all : (slot : ℕ) (copied : Copied) → copied_at copies slot ≡ Some copied → Contains entries (record { block = copied.block; set = copied.set; slot = slot })

-- the entry as its slot's row has it now, none where the slot is no longer noted
abbrev pub entry_now : List (Option Copied) → Entry → Option Entry
entry_now copies entry = option_map (λ copied. record { block = copied.block; set = copied.set; slot = entry.slot }) (copied_at copies entry.slot)

-- ## How the copies of a block hang together: a block leads to the slot of its newest copy, and the row of a copy to the next older one. What a
-- link means is said of the copies, not of the way there: it leads to the copy of the block with the greatest set below, where there is
-- one. Where there is none, it is not said where it leads, so who follows it looks whether the slot has such a copy. (This project's own.)

-- what a contract sees: how many blocks there are, and for each slot its copy
pub record LinksValue : Type 0 where
  pub blocks : ℕ
  pub copies : List (Option Copied)

-- what holds of each: the copies are of its blocks, and no two slots are noted for one block of one set
pub record AreLinked (links : LinksValue) : Type 0 where
  pub of_blocks : (slot : ℕ) (copied : Copied) → copied_at links.copies slot ≡ Some copied → copied.block < links.blocks
  pub once : (slot other : ℕ) (copied : Copied) → copied_at links.copies slot ≡ Some copied → copied_at links.copies other ≡ Some copied → slot ≡ other
  pub narrow : length links.copies < 2 ^ 32

-- the copy that a row stands for; a row of set 0 stands for none
abbrev pub copy_in : Row → Option Copied
copy_in row = if row.set == 0 then None else Some (copy_of row.set row.block)

-- the row of a slot; past the last one that of a slot without a copy
abbrev pub row_at : List Row → ℕ → Row
row_at rows slot = slice_index_or rows slot (record { block = 0; set = 0; older = 0 })

-- the slot has a copy of the block
abbrev pub HasBlock : List Row → ℕ → ℕ → Type 0
HasBlock rows block slot = (0 < (row_at rows slot).set) × ((row_at rows slot).block ≡ block)

-- each copy of the block above the low set is from the high one on
abbrev pub NoneBetween : List Row → ℕ → ℕ → ℕ → Type 0
NoneBetween rows block low high = (other : ℕ) → HasBlock rows block other → low < (row_at rows other).set → high ≤ (row_at rows other).set

-- the slot has a copy of the block between the two sets
pub record IsBetween (rows : List Row) (block low high slot : ℕ) : Type 0 where
  pub has : HasBlock rows block slot
  pub above : low < (row_at rows slot).set
  pub below : (row_at rows slot).set < high

-- the link leads to the copy of the block with the greatest set below this one
pub record LeadsBelow (rows : List Row) (link block set : ℕ) : Type 0 where
  pub between : IsBetween rows block 0 set link
  pub next : (other : ℕ) → HasBlock rows block other → (row_at rows other).set < set → (row_at rows other).set ≤ (row_at rows link).set

-- where there is such a copy, the link leads there; else it may be any number
abbrev pub IsBelow : List Row → ℕ → ℕ → ℕ → Type 0
IsBelow rows link block set = (other : ℕ) → HasBlock rows block other → (row_at rows other).set < set → LeadsBelow rows link block set

-- ## the links of a block: one from the block itself, which stands above all sets, and one from each of its copies

abbrev pub link_from : List ℕ → List Row → ℕ → Option ℕ → ℕ
link_from newest rows block None = slice_index newest block
link_from newest rows block (Some slot) = (row_at rows slot).older

abbrev pub set_of : List Row → Option ℕ → ℕ
set_of rows None = 2 ^ 32
set_of rows (Some slot) = (row_at rows slot).set

abbrev pub IsFrom : List ℕ → List Row → ℕ → Option ℕ → Type 0
IsFrom newest rows block None = block < length newest
IsFrom newest rows block (Some slot) = HasBlock rows block slot

-- what the rows keep
pub record KeepsLinks (newest : List ℕ) (rows : List Row) : Type 0 where
  pub links : (block : ℕ) (from : Option ℕ) → IsFrom newest rows block from → IsBelow rows (link_from newest rows block from) block (set_of rows from)
  pub once : (slot other : ℕ) → 0 < (row_at rows slot).set → HasBlock rows (row_at rows slot).block other → (row_at rows slot).set ≡ (row_at rows other).set → slot ≡ other
  pub in_range : (slot : ℕ) → 0 < (row_at rows slot).set → (row_at rows slot).block < length newest
  pub narrow_sets : (slot : ℕ) → (row_at rows slot).set < 2 ^ 32
  pub narrow : length rows < 2 ^ 32
  pub narrow_blocks : length newest < 2 ^ 32

-- the copy of the block with the least set above the low one, or the block itself where there is none
pub record IsNextAbove (rows : List Row) (block low : ℕ) (from : Option ℕ) : Type 0 where
  pub has : IfSome from (HasBlock rows block)
  pub above : low < set_of rows from
  pub next : NoneBetween rows block low (set_of rows from)

-- ## a slot gets another row, and the link of its block from above it leads elsewhere

abbrev pub newest_after : List ℕ → ℕ → Option ℕ → ℕ → List ℕ
newest_after newest block None to = slice_set newest block to
newest_after newest block (Some slot) to = newest

abbrev pub older_after : List Row → Option ℕ → ℕ → List Row
older_after rows None to = rows
older_after rows (Some slot) to = slice_set rows slot (record { block = (row_at rows slot).block; set = (row_at rows slot).set; older = to })

-- a lesser set, which lacked the block, has the copy of the slot now
pub record IsLowered (old new : LinksValue) (slot set block : ℕ) : Type 0 where
  pub block_is : (copied : Copied) → copied_at old.copies slot ≡ Some copied → copied.block ≡ block
  pub lacked : HasCopy old.copies set block → ⊥
  pub lowered : new ≡ record { blocks = old.blocks; copies = slice_set old.copies slot (Some (copy_of set block)) }
