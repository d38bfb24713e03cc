-- Shards and a journal as one whole; and that the images of one recorded cut are the volumes after one beginning of the journal.
use Rattle.std.specs.List.{Contains}
use Rattle.std.specs.Prelude.{ℕ, ◌≡◌, ◌≢◌, ◌<◌, List, take, Option, Some, None, slice_get, is_some, true, Result, Ok, Err}
use Rattle.write_history.specs.History.{content, point_in}
use Rattle.vss_shards.specs.Calls.{IsGivenBack}
use Rattle.vss_shards.specs.Shards.{DraftValue, GoesOn, IsSettled, ShardValue, IsShard}
use Rattle.vss_shards.specs.Journals.{part_of, writes_of, volume_after, JournalValue, Cut, IsJournal}
use Rattle.vss_shards.specs.declared.entry.Entry.{Entry}
use Rattle.vss_shards.specs.declared.gather_fault.GatherFault.{GatherFault}
use Rattle.vss_shards.specs.declared.gather_fault.GatherFault.TheVariants.{Held, Differs}
use Rattle.vss_shards.specs.declared.part.Part.{Part}

-- ## When shards and a journal are one whole: no shard is held, and the list of each has just the journal's entries of its volume, in
-- their order. (This project's own.)

-- shard k is not held
abbrev pub IsFree : {D : Type 0} → List (ShardValue D) → ℕ → Type 0
IsFree {D = D} shards k = (s : ShardValue D) → slice_get shards k ≡ Some s → s.held ≡ None

-- the list of shard k is the journal's part of its volume
abbrev pub IsPart : {D : Type 0} → List (ShardValue D) → List Entry → ℕ → Type 0
IsPart {D = D} shards journal k = (s : ShardValue D) → slice_get shards k ≡ Some s → s.entries ≡ part_of s.number journal

-- the first held shard, which is of volume v
pub record IsFirstHeld {D : Type 0} (shards : List (ShardValue D)) (v : ℕ) : Type 0 where
  pub place : ℕ
  pub shard : ShardValue D
  pub is : slice_get shards place ≡ Some shard
  pub held : is_some shard.held ≡ true
  pub number : shard.number ≡ v
  pub before : (k : ℕ) → k < place → IsFree shards k

-- two lists are the same before this place, and differ there
pub record DifferFirst (listed journalled : List Entry) (at : ℕ) (own other : Option Entry) : Type 0 where
  pub before : take at listed ≡ take at journalled
  pub own_is : slice_get listed at ≡ own
  pub other_is : slice_get journalled at ≡ other
  pub apart : own ≢ other

-- the first shard whose list is not the journal's part of its volume, with the first place where the two differ
pub record IsFirstOff {D : Type 0} (shards : List (ShardValue D)) (journal : List Entry) (v at : ℕ) (own other : Option Entry) : Type 0 where
  pub place : ℕ
  pub shard : ShardValue D
  pub is : slice_get shards place ≡ Some shard
  pub number : shard.number ≡ v
  pub differ : DifferFirst shard.entries (part_of v journal) at own other
  pub before : (k : ℕ) → k < place → IsPart shards journal k

abbrev pub IsGathered : {D : Type 0} → List (ShardValue D) → List Entry → Result Unit GatherFault → Type 0
IsGathered shards journal (Ok done) = ((k : ℕ) → IsFree shards k) × ((k : ℕ) → IsPart shards journal k)
IsGathered shards journal (Err (Held v)) = IsFirstHeld shards v
IsGathered shards journal (Err (Differs v at own other)) = ((k : ℕ) → IsFree shards k) × IsFirstOff shards journal v at own other

-- ## in parts

-- a fault that tells of the first held shard
abbrev pub IsHeldOne : {D : Type 0} → List (ShardValue D) → GatherFault → Type 0
IsHeldOne shards (Held v) = IsFirstHeld shards v
IsHeldOne shards (Differs v at own other) = ⊥

-- a fault that tells where the list of volume v and the journal's part of it first differ
abbrev pub IsOffIn : ℕ → List Entry → List Entry → GatherFault → Type 0
IsOffIn v listed journalled (Held w) = ⊥
IsOffIn v listed journalled (Differs w at own other) = (w ≡ v) × DifferFirst listed journalled at own other

-- ## The images of one recorded cut are the volumes after one and the same beginning of the journal. (This project's own.)

-- the shard has the image of a part of a cut, and is not held for it
pub record HasImage {D : Type 0} (s : ShardValue D) (p : Part) : Type 0 where
  pub volume : s.number ≡ p.volume
  pub made : point_in p.image s.images ≡ Some p.count
  pub settled : IsSettled s p.image

-- a held shard was given back after its cut was recorded
pub record IsGivenImage {D : Type 0} (told : D → Option (List (List ℕ))) (old new : ShardValue D) (draft_old draft_new : DraftValue) (number : ℕ) : Type 0 where
  pub shard : IsShard told old
  pub given : IsGivenBack old new draft_old draft_new
  pub recorded : draft_old.recorded ≡ Some number

-- An image of a recorded cut: the journal has stored the cut, with this part; `first` is the shard of the part as it was given back
-- with the image; `now` is the same shard later, where the image still stands, and its list is the journal's part of its volume.
pub record IsImageOf {D : Type 0} (j : JournalValue) (cut : Cut) (p : Part) (first now : ShardValue D) (point : ℕ) : Type 0 where
  pub journal : IsJournal j
  pub stored : Contains j.cuts cut
  pub part : Contains cut.parts p
  pub image : HasImage first p
  pub later : GoesOn first now
  pub stands : point_in p.image now.images ≡ Some point
  pub gathered : now.entries ≡ part_of now.number j.entries

-- each block of the image is as the volume has it after the journal's first entries, as many as it had at the cut
abbrev pub ShowsMoment : {D : Type 0} → JournalValue → Cut → Part → ShardValue D → ℕ → Type 0
ShowsMoment j cut p now point = (b : ℕ) → content (writes_of now.entries) point b ≡ volume_after (take cut.at j.entries) p.volume b
