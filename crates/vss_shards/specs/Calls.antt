-- What the calls on a shard, a draft and the journal come to, and what is said of one that failed. (This project's own.)
use Rattle.std.specs.Fmt.{decimal}
use Rattle.std.specs.Prelude.{ℕ, ◌≡◌, ◌<◌, ◌≤◌, ◌+◌, ◌⊎◌, ◌++◌, List, [], ◌∷◌, length, true, Option, Some, None, is_some, Result, Ok, Err, codes}
use Rattle.volume_device.specs.declared.device.Device.{Ghosts}
use Rattle.write_history.specs.History.{Image, after_set}
use Rattle.cow_volume.specs.StandsFor.{GroupValue}
use Rattle.cow_volume.specs.OneVolume.{blocks_of, IsOneWritten, IsOneUnwritten}
use Rattle.cow_volume.specs.declared.cause.Cause.{Cause}
use Rattle.cow_volume.specs.declared.cause.Cause.TheVariants.{NoSuchBlock as NoBlockCause, Volume as VolumeCause, Area as AreaCause}
use Rattle.cow_volume.specs.declared.write_fault.WriteFault.{WriteFault}
use Rattle.vss_shards.specs.Shards.{DraftValue, IsTakenOut, IsShard, ShardValue, shard_value, most_images}
use Rattle.vss_shards.specs.Journals.{write_of, most_entries, JournalValue, Cut, IsEnteredUnderLock, IsFullUnderLock, appended, first_off, journal_value}
use Rattle.vss_shards.specs.Journals.{most_cuts}
use Rattle.vss_shards.specs.declared.collect_fault.CollectFault.{CollectFault}
use Rattle.vss_shards.specs.declared.collect_fault.CollectFault.TheVariants.{Held as HeldAlready, Full as NoRoom, OutOfMemory as NoMemory}
use Rattle.vss_shards.specs.declared.collect_fault.CollectFault.TheVariants as collect
use Rattle.vss_shards.specs.declared.entry.Entry.{Entry}
use Rattle.vss_shards.specs.declared.gather_fault.GatherFault.{GatherFault}
use Rattle.vss_shards.specs.declared.gather_fault.GatherFault.TheVariants as gather
use Rattle.vss_shards.specs.declared.part.Part.{Part}
use Rattle.vss_shards.specs.declared.record_fault.RecordFault.{RecordFault}
use Rattle.vss_shards.specs.declared.record_fault.RecordFault.TheVariants.{Full as FullOfCuts, Differs, OutOfMemory as NoMemoryForCut}
use Rattle.vss_shards.specs.declared.record_fault.RecordFault.TheVariants as record_cut
use Rattle.vss_shards.specs.declared.shard_fault.ShardFault.{ShardFault}
use Rattle.vss_shards.specs.declared.shard_fault.ShardFault.TheVariants.{Held, NoSuchBlock, Full, OutOfMemory, Volume, Area}
use Rattle.vss_shards.specs.declared.shard_fault.ShardFault.TheVariants as shard
use Rattle.vss_shards.specs.declared.small.Small.{Small}

-- ## What the calls on a shard, a draft and the journal come to. (This project's own.)

-- ## write_on

-- the entry of a write of this shard
abbrev pub entry_of : {D : Type 0} → ShardValue D → ℕ → Small → Entry
entry_of s block payload = record { volume = s.number; block = block; payload = payload }

-- the shard may be written at this block
pub record MayBeWritten {D : Type 0} (s : ShardValue D) (block : ℕ) : Type 0 where
  pub free : s.held ≡ None
  pub in_range : block < blocks_of s.volume

-- neither list is full
abbrev pub HaveRoom : {D : Type 0} → ShardValue D → JournalValue → Type 0
HaveRoom s j = (length s.entries < most_entries) × (length j.entries + j.places < most_entries)

-- what of the shard is in the way of a write: the first cause that stands
abbrev pub IsAllowed : {D : Type 0} → ShardValue D → ℕ → Result Unit ShardFault → Type 0
IsAllowed s block (Ok done) = MayBeWritten s block × (length s.entries < most_entries)
IsAllowed s block (Err Held) = is_some s.held ≡ true
IsAllowed s block (Err NoSuchBlock) = (s.held ≡ None) × (blocks_of s.volume ≤ block)
IsAllowed s block (Err Full) = MayBeWritten s block × (length s.entries ≡ most_entries)
IsAllowed s block (Err OutOfMemory) = ⊥
IsAllowed s block (Err Volume) = ⊥
IsAllowed s block (Err Area) = ⊥

-- why a shard was not written, as the volume's fault has it
abbrev pub fault_from : Cause → ShardFault
fault_from NoBlockCause = NoSuchBlock
fault_from VolumeCause = Volume
fault_from AreaCause = Area

-- images up to this number went; the list has these entries
abbrev pub after_write : {D : Type 0} → ShardValue D → GroupValue D → ℕ → List Entry → ShardValue D
after_write s volume up_to entries = shard_value s.number volume entries (after_set up_to s.images) s.last s.held

-- the entry was written, and is the last one of the shard's list
pub record IsPutIn {D : Type 0} (ghosts : Ghosts D) (old new : ShardValue D) (e : Entry) : Type 0 where
  -- up to which number images went, which the definition of slots decides
  pub up_to : ℕ
  pub written : IsOneWritten ghosts old.volume new.volume (write_of e) up_to
  pub shard : new ≡ after_write old new.volume up_to (old.entries ++ e ∷ [])

-- a device failed: images went all the same, and nothing else changed
pub record IsNotPut {D : Type 0} (ghosts : Ghosts D) (old new : ShardValue D) (block : ℕ) (cause : Cause) : Type 0 where
  pub fault : WriteFault
  pub because : fault.cause ≡ cause
  pub unwritten : IsOneUnwritten ghosts old.volume new.volume block fault
  pub shard : new ≡ after_write old new.volume fault.evicted_up_to old.entries

-- the shard's part of a write
abbrev pub IsPut : {D : Type 0} → Ghosts D → ShardValue D → ShardValue D → ℕ → Small → Result Entry ShardFault → Type 0
IsPut ghosts old new block payload (Ok e) = (e ≡ entry_of old block payload) × IsPutIn ghosts old new e
IsPut ghosts old new block payload (Err Held) = ⊥
IsPut ghosts old new block payload (Err NoSuchBlock) = ⊥
IsPut ghosts old new block payload (Err Full) = ⊥
IsPut ghosts old new block payload (Err OutOfMemory) = new ≡ old
IsPut ghosts old new block payload (Err Volume) = IsNotPut ghosts old new block VolumeCause
IsPut ghosts old new block payload (Err Area) = IsNotPut ghosts old new block AreaCause

-- the entry was written, and is the last one of the list and of the journal
pub record IsEntered {D : Type 0} (ghosts : Ghosts D) (old new : ShardValue D) (journal_old journal_new : JournalValue) (e : Entry) (answer : ℕ) : Type 0 where
  pub may : MayBeWritten old e.block
  pub room : HaveRoom old journal_old
  pub put : IsPutIn ghosts old new e
  pub journal : journal_new ≡ appended e journal_old
  pub answered : answer ≡ length journal_old.entries + 1

-- a device failed
pub record IsNotEntered {D : Type 0} (ghosts : Ghosts D) (old new : ShardValue D) (journal_old journal_new : JournalValue) (block : ℕ) (cause : Cause) : Type 0 where
  pub may : MayBeWritten old block
  pub room : HaveRoom old journal_old
  pub unput : IsNotPut ghosts old new block cause
  pub journal : journal_new ≡ journal_old

abbrev pub IsWriteOn : {D : Type 0} → Ghosts D → ShardValue D → ShardValue D → JournalValue → JournalValue → ℕ → Small → Result ℕ ShardFault → Type 0
IsWriteOn ghosts old new jold jnew block payload (Ok answer) = IsEntered ghosts old new jold jnew (entry_of old block payload) answer
IsWriteOn ghosts old new jold jnew block payload (Err Held) = IsAllowed old block (Err Held) × (new ≡ old) × (jnew ≡ jold)
IsWriteOn ghosts old new jold jnew block payload (Err NoSuchBlock) = IsAllowed old block (Err NoSuchBlock) × (new ≡ old) × (jnew ≡ jold)
IsWriteOn ghosts old new jold jnew block payload (Err Full) = MayBeWritten old block
    × ((length old.entries ≡ most_entries) ⊎ (length jold.entries + jold.places ≡ most_entries)) × (new ≡ old) × (jnew ≡ jold)
IsWriteOn ghosts old new jold jnew block payload (Err OutOfMemory) = MayBeWritten old block × HaveRoom old jold × (new ≡ old) × (jnew ≡ jold)
IsWriteOn ghosts old new jold jnew block payload (Err Volume) = IsNotEntered ghosts old new jold jnew block VolumeCause
IsWriteOn ghosts old new jold jnew block payload (Err Area) = IsNotEntered ghosts old new jold jnew block AreaCause

-- ## write, under locks

-- why no place was taken for an entry
abbrev pub IsPlaceRefused : ShardFault → Type 0
IsPlaceRefused Held = ⊥
IsPlaceRefused NoSuchBlock = ⊥
IsPlaceRefused Full = IsFullUnderLock
IsPlaceRefused OutOfMemory = Unit {0}
IsPlaceRefused Volume = ⊥
IsPlaceRefused Area = ⊥

-- what a write of a shard says, between whatever else was done to the shard
abbrev pub IsWriteSaid : {D : Type 0} → Ghosts D → ShardValue D → ShardValue D → ℕ → Small → Result ℕ ShardFault → Type 0
IsWriteSaid ghosts old new block payload (Ok answer) =
    MayBeWritten old block × IsPutIn ghosts old new (entry_of old block payload) × IsEnteredUnderLock (entry_of old block payload) answer
IsWriteSaid ghosts old new block payload (Err Held) = IsAllowed old block (Err Held) × (new ≡ old)
IsWriteSaid ghosts old new block payload (Err NoSuchBlock) = IsAllowed old block (Err NoSuchBlock) × (new ≡ old)
IsWriteSaid ghosts old new block payload (Err Full) = MayBeWritten old block × ((length old.entries ≡ most_entries) ⊎ IsFullUnderLock) × (new ≡ old)
IsWriteSaid ghosts old new block payload (Err OutOfMemory) = MayBeWritten old block × (length old.entries < most_entries) × (new ≡ old)
IsWriteSaid ghosts old new block payload (Err Volume) = MayBeWritten old block × IsNotPut ghosts old new block VolumeCause
IsWriteSaid ghosts old new block payload (Err Area) = MayBeWritten old block × IsNotPut ghosts old new block AreaCause

-- shard v was found under its lock, and left there as the call says
pub record IsWriteUnderLock {D : Type 0} (ghosts : Ghosts D) (v block : ℕ) (payload : Small) (result : Result ℕ ShardFault) : Type 0 where
  pub found : ShardValue D
  pub left : ShardValue D
  pub is : IsShard ghosts.told found
  pub number : found.number ≡ v
  pub said : IsWriteSaid ghosts found left block payload result

-- ## collect

-- the part of a cut that a shard comes to now: its next image, and the length of its list
abbrev pub part_now : {D : Type 0} → ShardValue D → Part
part_now s = record { volume = s.number; image = s.last + 1; count = length s.entries }

abbrev pub IsCollected : {D : Type 0} → ShardValue D → ShardValue D → DraftValue → DraftValue → Result Unit CollectFault → Type 0
IsCollected old new dold dnew (Ok done) = (old.held ≡ None) × (length old.images < most_images) × (old.last < 4294967295)
    × (new ≡ shard_value old.number old.volume old.entries old.images (old.last + 1) (Some (part_now old)))
    × (dnew ≡ record { parts = dold.parts ++ part_now old ∷ []; recorded = dold.recorded })
IsCollected old new dold dnew (Err HeldAlready) = (is_some old.held ≡ true) × (new ≡ old) × (dnew ≡ dold)
IsCollected old new dold dnew (Err NoRoom) = (old.held ≡ None) × ((length old.images ≡ most_images) ⊎ (old.last ≡ 4294967295)) × (new ≡ old) × (dnew ≡ dold)
IsCollected old new dold dnew (Err NoMemory) = (old.held ≡ None) × (length old.images < most_images) × (old.last < 4294967295) × (new ≡ old) × (dnew ≡ dold)

-- ## record_cut

-- the cut that a draft comes to now
abbrev pub cut_now : JournalValue → DraftValue → Cut
cut_now j draft = record { at = length j.entries; parts = draft.parts }

abbrev pub IsRecorded : JournalValue → JournalValue → DraftValue → DraftValue → Result ℕ RecordFault → Type 0
IsRecorded jold jnew dold dnew (Ok number) = (length jold.cuts < most_cuts) × (first_off jold.entries dold.parts ≡ None)
    × (number ≡ length jold.cuts + 1)
    × (jnew ≡ journal_value jold.entries (jold.cuts ++ cut_now jold dold ∷ []) jold.places)
    × (dnew ≡ record { parts = dold.parts; recorded = Some number })
IsRecorded jold jnew dold dnew (Err FullOfCuts) = (length jold.cuts ≡ most_cuts) × (jnew ≡ jold) × (dnew ≡ dold)
IsRecorded jold jnew dold dnew (Err (Differs v listed journalled)) = (length jold.cuts < most_cuts)
    × (first_off jold.entries dold.parts ≡ Some (Differs v listed journalled)) × (jnew ≡ jold) × (dnew ≡ dold)
IsRecorded jold jnew dold dnew (Err NoMemoryForCut) = (length jold.cuts < most_cuts) × (first_off jold.entries dold.parts ≡ None) × (jnew ≡ jold) × (dnew ≡ dold)

-- ## give_back

-- with the image of a part, where the cut was recorded
abbrev pub images_after : Option ℕ → Part → List Image → List Image
images_after None p images = images
images_after (Some number) p images = images ++ record { set = p.image; point = p.count } ∷ []

-- the shard is held no longer, and has the image of its part where the draft's cut was recorded; no device was touched
pub record IsGivenBack {D : Type 0} (old new : ShardValue D) (draft_old draft_new : DraftValue) : Type 0 where
  pub part : Part
  pub held_for : old.held ≡ Some part
  pub shard : new ≡ shard_value old.number new.volume old.entries (images_after draft_old.recorded part old.images) old.last None
  pub devices : new.volume.devices ≡ old.volume.devices
  pub area : new.volume.area ≡ old.volume.area
  pub parts : IsTakenOut part draft_old.parts draft_new.parts
  pub recorded : draft_new.recorded ≡ draft_old.recorded

-- ## What is said of a call on shards that failed. (This project's own.)

abbrev pub collect_message : CollectFault → List ℕ
collect_message collect.Held = codes "the shard is held for a cut"
collect_message collect.Full = codes "the shard takes no more images"
collect_message collect.OutOfMemory = codes "out of memory"

abbrev pub gather_message : GatherFault → List ℕ
gather_message (gather.Held volume) = codes "volume " ++ decimal volume ++ codes " is held for a cut"
gather_message (gather.Differs volume at listed journalled) = codes "volume " ++ (decimal volume ++ (codes " differs from the journal at entry " ++ decimal at))

abbrev pub record_message : RecordFault → List ℕ
record_message record_cut.Full = codes "the journal takes no more cuts"
record_message (record_cut.Differs volume listed journalled) =
    codes "volume " ++ (decimal volume ++ (codes " lists " ++ (decimal listed ++ (codes " entries, the journal " ++ decimal journalled))))
record_message record_cut.OutOfMemory = codes "out of memory"

abbrev pub shard_message : ShardFault → List ℕ
shard_message shard.Held = codes "the shard is held for a cut"
shard_message shard.NoSuchBlock = codes "no such block"
shard_message shard.Full = codes "the shard or the journal takes no more entries"
shard_message shard.OutOfMemory = codes "out of memory"
shard_message shard.Volume = codes "the volume's device failed"
shard_message shard.Area = codes "the diff area's device failed"
