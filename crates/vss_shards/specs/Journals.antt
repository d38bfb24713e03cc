-- The journal of several volumes: all entries in one order, what a volume has after them, and the cuts that were recorded. (This project's own.)
use Rattle.std.specs.Prelude.{ℕ, List, length, map, filter, ◌==◌, ◌≡◌, ◌<◌, ◌≤◌, ◌+◌, ◌++◌, [], ◌∷◌, take, if◌then◌else◌, Option, Some, None, slice_get, All}
use Rattle.block_data.specs.BlockBytes.{payload_bytes, zeros}
use Rattle.block_data.specs.declared.payload.Payload.{Payload}
use Rattle.block_data.specs.declared.payload.Payload.TheVariants.{Fill as FillBlock, Stamp as StampBlock}
use Rattle.write_history.specs.History.{Write, last_bytes}
use Rattle.vss_shards.specs.declared.entry.Entry.{Entry}
use Rattle.vss_shards.specs.declared.part.Part.{Part}
use Rattle.vss_shards.specs.declared.record_fault.RecordFault.{RecordFault}
use Rattle.vss_shards.specs.declared.record_fault.RecordFault.TheVariants.{Differs}
use Rattle.vss_shards.specs.declared.small.Small.{Small}
use Rattle.vss_shards.specs.declared.small.Small.TheVariants.{Fill, Stamp}

-- ## A journal of several volumes: writes of several volumes in one order, each with the number of its volume; and what a volume has
-- after them. (This project's own.)

abbrev pub payload_of : Small → Payload
payload_of (Fill byte) = FillBlock byte
payload_of (Stamp number) = StampBlock number

-- an entry as a write of its volume
abbrev pub write_of : Entry → Write
write_of e = record { block = e.block; bytes = payload_bytes (payload_of e.payload) }

abbrev pub writes_of : List Entry → List Write
writes_of entries = map write_of entries

-- the entries of volume v, in order
abbrev pub part_of : ℕ → List Entry → List Entry
part_of v entries = filter (λ e. e.volume == v) entries

-- how many entries of volume v there are
abbrev pub count_of : List Entry → ℕ → ℕ
count_of entries v = length (part_of v entries)

-- block b of volume v after these entries: the bytes of the last one that names it, or else zeros
abbrev pub volume_after : List Entry → ℕ → ℕ → List ℕ
volume_after entries v b = last_bytes b zeros (writes_of (part_of v entries))

-- how many entries a list or the journal may have
abbrev pub most_entries : ℕ
most_entries = 1048576

-- how many volumes there may be
abbrev pub most_volumes : ℕ
most_volumes = 128

-- ## The journal of several volumes: all entries in one order, and the cuts that were recorded. A recorded cut is of one moment: each
-- of its parts has the number of entries of its volume that the journal had then. (This project's own.)

pub record Cut : Type 0 where
  -- how many entries the journal had
  pub at : ℕ
  pub parts : List Part

-- what a contract sees of a journal
pub record JournalValue : Type 0 where
  pub entries : List Entry
  pub cuts : List Cut
  -- for how many entries that are being written there is room that is promised
  pub places : ℕ

abbrev pub journal_value : List Entry → List Cut → ℕ → JournalValue
journal_value entries cuts places = record { entries = entries; cuts = cuts; places = places }

-- with so many places
abbrev pub with_places : ℕ → JournalValue → JournalValue
with_places places j = journal_value j.entries j.cuts places

-- with one more entry, the last
abbrev pub appended : Entry → JournalValue → JournalValue
appended e j = journal_value (j.entries ++ e ∷ []) j.cuts j.places

-- an entry was put at the end, and there are so many then
pub record IsEnteredIn (old new : JournalValue) (e : Entry) (answer : ℕ) : Type 0 where
  pub entries : new.entries ≡ old.entries ++ e ∷ []
  pub cuts : new.cuts ≡ old.cuts
  pub answered : answer ≡ length new.entries
  pub few : answer ≤ most_entries

-- the same of a journal as it was found under its lock, and left there
pub record IsEnteredUnderLock (e : Entry) (answer : ℕ) : Type 0 where
  pub found : JournalValue
  pub left : JournalValue
  pub entered : IsEnteredIn found left e answer

-- a journal was found under its lock that has no place for one more entry
pub record IsFullUnderLock : Type 0 where
  pub found : JournalValue
  pub full : length found.entries + found.places ≡ most_entries

-- how many cuts a journal may have
abbrev pub most_cuts : ℕ
most_cuts = 65536

-- the parts of a cut have the numbers of entries that the first so many entries have
pub record IsMoment (entries : List Entry) (cut : Cut) : Type 0 where
  pub within : cut.at ≤ length entries
  pub counts : All (λ (p : Part). p.count ≡ count_of (take cut.at entries) p.volume) cut.parts

pub record IsJournal (j : JournalValue) : Type 0 where
  pub few : length j.entries + j.places ≤ most_entries
  pub few_cuts : length j.cuts ≤ most_cuts
  pub moments : All (IsMoment j.entries) j.cuts

-- there is a count for each volume that may be, its number of entries
pub record AreCounts (counts : List ℕ) (entries : List Entry) : Type 0 where
  pub all : length counts ≡ most_volumes
  pub each : (v : ℕ) → v < most_volumes → slice_get counts v ≡ Some (count_of entries v)

-- the first part whose count is not the journal's, with both numbers
abbrev pub first_off : List Entry → List Part → Option RecordFault
first_off entries [] = None
first_off entries (p ∷ parts) =
    if p.count == count_of entries p.volume then first_off entries parts else Some (Differs p.volume p.count (count_of entries p.volume))
