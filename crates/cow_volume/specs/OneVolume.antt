-- A copy-on-write volume by itself, with a diff area of its own: one volume, and what its calls come to against the one history
-- that it stands for. (This project's own.)
use Rattle.std.specs.Prelude.{ℕ, ◌≡◌, ◌<◌, ◌≤◌, Bool, true, false, List, [], ◌∷◌, length, ◌&&◌, Option, Some, is_some, Result, Ok, Err}
use Rattle.std.specs.List.{list_all}
use Rattle.write_history.specs.History.{History, Write, content, point_in, written, dropped, reverted, reverted_in_part, to_restore, after_set}
use Rattle.write_history.specs.Slots.{Copy, evicted_up_to, copies_of}
use Rattle.diff_area.specs.Copies.{AreStored}
use Rattle.cow_volume.specs.StandsFor.{GroupValue, placed, StandsFor}
use Rattle.cow_volume.specs.Calls.{HasCauseAt, HasImageCause, IsKept, IsUnfailed, DeviceRose, AreaRose, is_among, blocks_at, sets_at}
use Rattle.cow_volume.specs.CopiesAfter.{IsCopiedOnce}
use Rattle.cow_volume.specs.Ending.{IsSynced}
use Rattle.cow_volume.specs.Parts.{IsLentBy}
use Rattle.cow_volume.specs.declared.cause.Cause.{Cause}
use Rattle.cow_volume.specs.declared.cause.Cause.TheVariants.{Area}
use Rattle.cow_volume.specs.declared.written.Written.{Written}
use Rattle.cow_volume.specs.declared.write_fault.WriteFault.{WriteFault}
use Rattle.cow_volume.specs.declared.image_fault.ImageFault.{ImageFault}
use Rattle.cow_volume.specs.declared.image_fault.ImageFault.TheVariants.{NoSuchImage}
use Rattle.cow_volume.specs.declared.revert_fault.RevertFault.{RevertFault}
use Rattle.cow_volume.specs.declared.revert_fault.RevertFault.TheVariants.{NoSuchImage as NoImage, Fault}
use Rattle.volume_device.specs.declared.device.Device.{Ghosts}

-- ## the volume

-- the volume stands for a history
abbrev pub StandsForOne : {D : Type 0} → (D → Option (List (List ℕ))) → GroupValue D → History → Type 0
StandsForOne told volume h = StandsFor told volume (h ∷ [])

-- how many blocks it has
abbrev pub blocks_of : {D : Type 0} → GroupValue D → ℕ
blocks_of volume = blocks_at volume 0

-- the sets of its images, the oldest first
abbrev pub image_sets : {D : Type 0} → GroupValue D → List ℕ
image_sets volume = sets_at volume 0

-- its device and its area's tell their blocks
abbrev pub tells : {D : Type 0} → (D → Option (List (List ℕ))) → GroupValue D → Bool
tells told volume = list_all (λ d. is_some (told d)) volume.devices && is_some (told volume.area.device)

-- the history without the images of the sets up to this one
abbrev pub without_up_to : ℕ → History → History
without_up_to up_to h = record { writes = h.writes; images = after_set up_to h.images }

-- ## writes

-- sets up to this number are gone for a write of block b, as the definition of slots has it
abbrev pub IsEvictedOne : {D : Type 0} → GroupValue D → ℕ → History → ℕ → Type 0
IsEvictedOne volume b h up_to = (sets : ℕ) → ((n : ℕ) → is_some (point_in n h.images) ≡ true → n ≤ sets)
    → up_to ≡ evicted_up_to sets (length volume.area.records) (placed volume.area.volumes) 0 b (h ∷ [])

-- the block was written: images went as the definition has it, and there is one more effective write
pub record IsOneWritten {D : Type 0} (ghosts : Ghosts D) (old new : GroupValue D) (w : Write) (up_to : ℕ) : Type 0 where
  pub in_range : w.block < blocks_of old
  pub kept : IsKept ghosts old new
  pub evicted : (h : History) → StandsForOne ghosts.told old h → IsEvictedOne old w.block h up_to
  pub stands : (h : History) → StandsForOne ghosts.told old h → StandsForOne ghosts.told new (written w (without_up_to up_to h))
  pub unfailed : IsUnfailed ghosts.count old new

-- it was not: the images that went are gone all the same, and nothing else changed
pub record IsOneUnwritten {D : Type 0} (ghosts : Ghosts D) (old new : GroupValue D) (b : ℕ) (fault : WriteFault) : Type 0 where
  pub cause : HasCauseAt ghosts.count 0 b old new fault.cause
  pub kept : IsKept ghosts old new
  pub evicted : b < blocks_of old → (h : History) → StandsForOne ghosts.told old h → IsEvictedOne old b h fault.evicted_up_to
  pub none : blocks_of old ≤ b → fault.evicted_up_to ≡ 0
  pub stands : (h : History) → StandsForOne ghosts.told old h → StandsForOne ghosts.told new (without_up_to fault.evicted_up_to h)

abbrev pub IsOneWrite : {D : Type 0} → Ghosts D → GroupValue D → GroupValue D → Write → Result Written WriteFault → Type 0
IsOneWrite ghosts old new w (Ok done) = IsOneWritten ghosts old new w done.evicted_up_to
IsOneWrite ghosts old new w (Err fault) = IsOneUnwritten ghosts old new w.block fault

-- no slot's bytes change, but those of one where the newest image lacked a copy of block b
abbrev pub IsOneCopiedOnce : {D : Type 0} → (D → Option (List (List ℕ))) → GroupValue D → GroupValue D → ℕ → Type 0
IsOneCopiedOnce told old new b = IsCopiedOnce told old new 0 b

-- ## reads

-- the bytes are those of block b now, where the devices tell
abbrev pub IsOneNow : {D : Type 0} → (D → Option (List (List ℕ))) → GroupValue D → ℕ → List ℕ → Type 0
IsOneNow told volume b bytes = (h : History) → StandsForOne told volume h → tells told volume ≡ true → bytes ≡ content h.writes (length h.writes) b

-- the bytes are those that the image of a set shows of block b, where the devices tell
abbrev pub IsOneShown : {D : Type 0} → (D → Option (List (List ℕ))) → GroupValue D → ℕ → ℕ → List ℕ → Type 0
IsOneShown told volume set b bytes = (h : History) (p : ℕ) → StandsForOne told volume h → tells told volume ≡ true → point_in set h.images ≡ Some p
    → bytes ≡ content h.writes p b

-- why a call on block b failed
abbrev pub HasOneCause : {D : Type 0} → (D → ℕ) → ℕ → GroupValue D → GroupValue D → Cause → Type 0
HasOneCause count b old new cause = HasCauseAt count 0 b old new cause

-- why a call on block b of the image of a set failed: the first cause that stands
abbrev pub HasOneImageCause : {D : Type 0} → (D → ℕ) → ℕ → ℕ → GroupValue D → GroupValue D → ImageFault → Type 0
HasOneImageCause count set b old new fault = HasImageCause count 0 (Some set) b old new fault

-- a block of an image is lent just where the device that has it lends: the area's, where an image has a copy, or else the volume's
abbrev pub IsOneLentBy : {D : Type 0} → (D → Bool) → GroupValue D → ℕ → ℕ → Bool → Type 0
IsOneLentBy lending volume set b lent = IsLentBy lending volume 0 (Some set) b lent

-- ## images

-- the images changed, and the history as f says; the devices are as they were
pub record IsOneChanged {D : Type 0} (ghosts : Ghosts D) (old new : GroupValue D) (f : History → History) : Type 0 where
  pub kept : IsKept ghosts old new
  pub devices : new.devices ≡ old.devices
  pub area : new.area.device ≡ old.area.device
  pub stands : (h : History) → StandsForOne ghosts.told old h → StandsForOne ghosts.told new (f h)

-- the image of a set went
abbrev pub IsOneDropped : {D : Type 0} → Ghosts D → GroupValue D → GroupValue D → ℕ → Result Unit ImageFault → Type 0
IsOneDropped ghosts old new set (Ok done) = (is_among set (image_sets old) ≡ true) × IsOneChanged ghosts old new (dropped set)
IsOneDropped ghosts old new set (Err fault) = (fault ≡ NoSuchImage) × (is_among set (image_sets old) ≡ false) × (new ≡ old)

-- ## revert

-- the volume was brought back to the image of a set; no slot's bytes changed
pub record IsOneReverted {D : Type 0} (ghosts : Ghosts D) (old new : GroupValue D) (set : ℕ) : Type 0 where
  pub image : is_among set (image_sets old) ≡ true
  pub kept : IsKept ghosts old new
  pub stands : (h : History) (p : ℕ) → StandsForOne ghosts.told old h → point_in set h.images ≡ Some p → StandsForOne ghosts.told new (reverted set p h)
  pub unfailed : IsUnfailed ghosts.count old new
  pub slots : ghosts.told new.area.device ≡ ghosts.told old.area.device

-- a device failed after so many blocks were restored, in ascending order: fewer than there are to restore; no slot's bytes changed
pub record IsOneRevertedInPart {D : Type 0} (ghosts : Ghosts D) (old new : GroupValue D) (set restored : ℕ) : Type 0 where
  pub image : is_among set (image_sets old) ≡ true
  pub kept : IsKept ghosts old new
  pub fewer : (h : History) (p : ℕ) → StandsForOne ghosts.told old h → point_in set h.images ≡ Some p → restored < length (to_restore (blocks_of old) h.writes p)
  pub stands : (h : History) (p : ℕ) → StandsForOne ghosts.told old h → point_in set h.images ≡ Some p → StandsForOne ghosts.told new (reverted_in_part (blocks_of old) set p restored h)
  pub slots : ghosts.told new.area.device ≡ ghosts.told old.area.device

abbrev pub IsOneRevert : {D : Type 0} → Ghosts D → GroupValue D → GroupValue D → ℕ → Result Unit RevertFault → Type 0
IsOneRevert ghosts old new set (Ok done) = IsOneReverted ghosts old new set
IsOneRevert ghosts old new set (Err NoImage) = (is_among set (image_sets old) ≡ false) × (new ≡ old)
IsOneRevert ghosts old new set (Err (Fault restored cause)) = IsOneRevertedInPart ghosts old new set restored × DeviceRose ghosts.count 0 old new cause

-- ## what lasts

-- the copies of a volume's images, as its area has them
abbrev pub copies_in : ℕ → History → List Copy
copies_in n h = copies_of 0 n h.writes h.images

-- on the area's device stand the copies of the definitions, where the devices tell; or that device failed
abbrev pub IsOneSync : {D : Type 0} → Ghosts D → GroupValue D → GroupValue D → Result Unit Cause → Type 0
IsOneSync ghosts old new (Ok done) = IsSynced ghosts old new
    × ((h : History) → StandsForOne ghosts.told old h → tells ghosts.told old ≡ true → AreStored (ghosts.told new.area.device) (copies_in (blocks_of old) h))
    × IsUnfailed ghosts.count old new
IsOneSync ghosts old new (Err cause) = IsSynced ghosts old new × (cause ≡ Area) × AreaRose ghosts.count old new
