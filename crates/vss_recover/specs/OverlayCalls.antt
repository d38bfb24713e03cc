-- What the calls on an overlay leave: its records, and what its device tells. (This project's own.)
use Rattle.std.specs.Prelude.{ℕ, ◌≡◌, ◌<◌, ◌≤◌, ◌^◌, ◌⊎◌, Bool, true, false, List, length, map, Some, slice_get, slice_set, count_by, nat_lt, ◌==◌, ◌&&◌, not, if◌then◌else◌, Result, Ok, Err}
use Rattle.std.specs.List.{AllWithin, insert}
use Rattle.vss_names.specs.Faults.{Rose}
use Rattle.volume_device.specs.declared.device.Device.{Ghosts}
use Rattle.diff_area.specs.AreaValue.{AreaValue}
use Rattle.diff_area.specs.Format.{place_of_slot, free}
use Rattle.diff_area.specs.declared.table_record.Record.{Record}
use Rattle.diff_map.specs.Links.{place, place_of}
use Rattle.diff_map.specs.declared.entry.Entry.{Entry}
use Rattle.cow_volume.specs.StandsFor.{record_of}
use Rattle.cow_volume.specs.Calls.{is_among, IsSameDevice}
use Rattle.cow_volume.specs.Changes.{has_record}
use Rattle.cow_volume.specs.Room.{is_full}
use Rattle.cow_volume.specs.Steps.{put}
use Rattle.vss_recover.specs.declared.recover_fault.RecoverFault.{RecoverFault}
use Rattle.vss_recover.specs.declared.recover_fault.RecoverFault.TheVariants.{NotOpen, NoSuchBlock, NotOwner, Full, Area}

-- the record is of a block of the image of a set
abbrev pub is_block_of : ℕ → Record → Bool
is_block_of set r = nat_lt 0 r.set && (r.set == set)

-- how many are
abbrev pub count_in : ℕ → List Record → ℕ
count_in set records = count_by (is_block_of set) records

-- block b of the image of a set has no slot, and no slot is free
abbrev pub lacks_room : List Record → ℕ → ℕ → Bool
lacks_room records set b = not (has_record records (record_of 0 set b)) && is_full records

-- the record stays where its image is one of these
abbrev pub kept_record : List ℕ → Record → Record
kept_record sets r = if is_among r.set sets then r else free

abbrev pub kept_records : List ℕ → List Record → List Record
kept_records sets records = map (kept_record sets) records

-- the slot of a record is noted in its place among ordered entries
pub record IsNotedIn (old new : List Entry) (slot : ℕ) (r : Record) : Type 0 where
  pub at : ℕ
  pub narrow : r.set < 2 ^ 32
  pub within : at ≤ length old
  pub before : AllWithin (λ e. place e < place_of r.block r.set) old 0 at
  pub onward : AllWithin (λ e. place_of r.block r.set ≤ place e) old at (length old)
  pub items : new ≡ insert old at (record { block = r.block; set = r.set; slot = slot })

-- the device was called, and the records are as they were
pub record KeepsRecords {D : Type 0} (ghosts : Ghosts D) (old new : AreaValue D) : Type 0 where
  pub volumes : new.volumes ≡ old.volumes
  pub records : new.records ≡ old.records
  pub device : IsSameDevice ghosts old.device new.device
  pub slots : ghosts.told new.device ≡ ghosts.told old.device

-- bytes were written into a slot
pub record IsWrittenTo {D : Type 0} (ghosts : Ghosts D) (old new : AreaValue D) (slot : ℕ) (bytes : List ℕ) : Type 0 where
  pub volumes : new.volumes ≡ old.volumes
  pub records : new.records ≡ old.records
  pub device : IsSameDevice ghosts old.device new.device
  pub slots : ghosts.told new.device ≡ put (place_of_slot (length old.records) slot) bytes (ghosts.told old.device)
  pub unfailed : ghosts.count new.device ≡ ghosts.count old.device

-- or the device failed
abbrev pub IsWrittenIn : {D : Type 0} → Ghosts D → AreaValue D → AreaValue D → ℕ → List ℕ → Result Unit RecoverFault → Type 0
IsWrittenIn ghosts old new slot bytes (Ok done) = IsWrittenTo ghosts old new slot bytes
IsWrittenIn ghosts old new slot bytes (Err fault) = (fault ≡ Area) × KeepsRecords ghosts old new × Rose (ghosts.count old.device) (ghosts.count new.device)

-- the slot has this record, or it is free and none has
abbrev pub IsChosen : List Record → Record → ℕ → Type 0
IsChosen records r slot = (slice_get records slot ≡ Some r) ⊎ ((slice_get records slot ≡ Some free) × (has_record records r ≡ false))

-- the slot that block b of the image of a set has, or one that was free and is the block's now, has these bytes
pub record IsPutIn {D : Type 0} (ghosts : Ghosts D) (old new : AreaValue D) (set b : ℕ) (bytes : List ℕ) : Type 0 where
  pub slot : ℕ
  pub was : IsChosen old.records (record_of 0 set b) slot
  pub volumes : new.volumes ≡ old.volumes
  pub records : new.records ≡ slice_set old.records slot (record_of 0 set b)
  pub device : IsSameDevice ghosts old.device new.device
  pub slots : ghosts.told new.device ≡ put (place_of_slot (length old.records) slot) bytes (ghosts.told old.device)
  pub unfailed : ghosts.count new.device ≡ ghosts.count old.device

abbrev pub IsPut : {D : Type 0} → Ghosts D → AreaValue D → AreaValue D → ℕ → ℕ → List ℕ → Result Unit RecoverFault → Type 0
IsPut ghosts old new set b bytes (Ok done) = (lacks_room old.records set b ≡ false) × IsPutIn ghosts old new set b bytes
IsPut ghosts old new set b bytes (Err NotOpen) = ⊥
IsPut ghosts old new set b bytes (Err NoSuchBlock) = ⊥
IsPut ghosts old new set b bytes (Err (NotOwner owner)) = ⊥
IsPut ghosts old new set b bytes (Err Full) = (lacks_room old.records set b ≡ true) × (new ≡ old)
IsPut ghosts old new set b bytes (Err Area) = (lacks_room old.records set b ≡ false) × KeepsRecords ghosts old new × Rose (ghosts.count old.device) (ghosts.count new.device)
