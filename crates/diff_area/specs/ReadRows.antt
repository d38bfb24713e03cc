-- What is read of a header and of a table, how equal records are found, and what an `AreaView` keeps. (This project's own.)
use Rattle.std.specs.BTreeSet.{BTreeSet, contains}
use Rattle.std.specs.List.{list_any}
use Rattle.std.specs.Ordering.{nat_cmp, ordering_then}
use Rattle.std.specs.Prelude.{ℕ, ◌≡◌, List, ◌≢◌, ◌<◌, true, false, length, Bool, [], ◌∷◌, ◌++◌, ◌||◌, not, ◌≤◌, vec_len}
use Rattle.std.specs.declared.cmp.Ordering.{Ordering}
use Rattle.diff_area.specs.Format.{layout_in, slots_in, stated_used, volumes_in, HasHeader, row_at, row_of, rows_in, is_good, good_at, row_count, is_same}
use Rattle.diff_area.specs.Format.{header_of, IsArea, used_in, AreNarrow, is_free}
use Rattle.diff_area.specs.declared.area_fault.AreaFault.{AreaFault}
use Rattle.diff_area.specs.declared.area_fault.AreaFault.TheVariants.{Device, BadHeader, BadRecord, OutOfMemory}
use Rattle.diff_area.specs.declared.header.Header.{Header}
use Rattle.diff_area.specs.declared.header_field.HeaderField.TheVariants.{Used}
use Rattle.diff_area.specs.declared.table_record.Record.{Record}

-- ## What is read of a header. (This project's own.)

-- these are the fields of the header
pub record IsHeaderOf (bytes : List ℕ) (header : Header) : Type 0 where
  pub layout : header.layout ≡ layout_in bytes
  pub slots : header.slots ≡ slots_in bytes
  pub used : header.used ≡ stated_used bytes
  pub volumes : header.volumes.items ≡ volumes_in bytes

-- and it is of the format
pub record IsAccepted (size : ℕ) (bytes : List ℕ) (header : Header) : Type 0 where
  pub fields : IsHeaderOf bytes header
  pub valid : HasHeader size bytes

-- ## What is read of a table. (This project's own.)

-- the record after these is not good, and says this; or memory was refused
abbrev pub IsBadRow : Header → List ℕ → List Record → AreaFault → Type 0
IsBadRow h row earlier Device = ⊥
IsBadRow h row earlier (BadHeader field found) = ⊥
IsBadRow h row earlier (BadRecord slot set block volume) =
    (is_good h.volumes.items h.slots h.layout (length earlier) row earlier ≡ false) × (slot ≡ length earlier)
    × (row_of h.layout row ≡ record { set = set; block = block; volume = volume })
IsBadRow h row earlier OutOfMemory = Unit {0}

abbrev pub good_under : Header → List ℕ → ℕ → Type 0
good_under h table slot = good_at h.volumes.items h.slots h.layout table slot ≡ true

-- the first n records of the table are good, and these are they
pub record AreGood (h : Header) (table : List ℕ) (n : ℕ) (rows : List Record) : Type 0 where
  pub rows_are : rows ≡ rows_in h.layout table n
  pub narrow : AreNarrow rows
  pub good : (slot : ℕ) → slot < n → good_under h table slot

-- of the first n records this one is the first that is not good, and it says this
pub record IsFirstBadRow (h : Header) (table : List ℕ) (n slot : ℕ) (r : Record) : Type 0 where
  pub within : slot < n
  pub earlier : (other : ℕ) → other < slot → good_under h table other
  pub bad : good_at h.volumes.items h.slots h.layout table slot ≡ false
  pub says : row_of h.layout (row_at table slot) ≡ r

abbrev pub AreRefused : Header → List ℕ → ℕ → AreaFault → Type 0
AreRefused h table n Device = ⊥
AreRefused h table n (BadHeader field found) = ⊥
AreRefused h table n (BadRecord slot set block volume) = IsFirstBadRow h table n slot (record { set = set; block = block; volume = volume })
AreRefused h table n OutOfMemory = Unit {0}

-- the table under the header: its records are good, those of the slots are these, and as many are used as it says
pub record IsTable (h : Header) (table : List ℕ) (rows : List Record) : Type 0 where
  pub rows_are : rows ≡ rows_in h.layout table h.slots
  pub narrow : AreNarrow rows
  pub good : (slot : ℕ) → slot < row_count h.slots → good_under h table slot
  pub used : h.used ≡ used_in rows

-- the records are good, and another number of them is used
pub record IsMiscountedTable (h : Header) (table : List ℕ) (found : ℕ) : Type 0 where
  pub good : (slot : ℕ) → slot < row_count h.slots → good_under h table slot
  pub stated : found ≡ h.used
  pub other : found ≢ used_in (rows_in h.layout table h.slots)

abbrev pub IsTableRefused : Header → List ℕ → AreaFault → Type 0
IsTableRefused h table Device = ⊥
IsTableRefused h table (BadHeader Used found) = IsMiscountedTable h table found
IsTableRefused h table (BadHeader field found) = ⊥
IsTableRefused h table (BadRecord slot set block volume) = IsFirstBadRow h table (row_count h.slots) slot (record { set = set; block = block; volume = volume })
IsTableRefused h table OutOfMemory = Unit {0}

-- ## How equal records are found: the records so far that are not free stand in an ordered set. (This project's own.)

-- by set, then by block, then by volume
abbrev pub record_cmp : Record → Record → Ordering
record_cmp a b = ordering_then (nat_cmp a.set b.set) (ordering_then (nat_cmp a.block b.block) (nat_cmp a.volume b.volume))

-- of the records that are not free, the set has those in this list
abbrev pub IsSeen : BTreeSet Record → List Record → Type 0
IsSeen seen rows = (r : Record) → is_free r ≡ false → contains record_cmp seen r ≡ list_any (is_same r) rows

-- a record was noted: whether it is free or new, and then it is seen
pub record IsNoted (old new : BTreeSet Record) (r : Record) (is_new : Bool) : Type 0 where
  pub answer : (rows : List Record) → IsSeen old rows → is_new ≡ (is_free r || not (list_any (is_same r) rows))
  pub seen : (rows : List Record) → IsSeen old rows → is_new ≡ true → IsSeen new (rows ++ r ∷ [])

-- ## What an `AreaView` keeps: its bytes are an area, and it knows the fields of the header. A contract sees the bytes
-- alone. (This project's own.)

pub record IsView (bytes : List ℕ) (header : Header) : Type 0 where
  pub area : IsArea bytes
  pub fields : IsHeaderOf (header_of bytes) header
  pub few : header.slots ≤ 65536
  pub few_volumes : vec_len header.volumes ≤ 128
