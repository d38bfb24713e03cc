-- What the calls on a volume with recovery writes come to, and what is said of those that were not made. (This project's own.)
use Rattle.std.specs.Fmt.{decimal}
use Rattle.std.specs.Prelude.{ℕ, ◌≡◌, ◌<◌, ◌≤◌, ◌⊎◌, zero, suc, true, false, List, length, Option, Some, None, Result, Ok, Err, ◌++◌, codes}
use Rattle.vss_names.specs.Faults.{Rose}
use Rattle.volume_device.specs.declared.device.Device.{Ghosts}
use Rattle.write_history.specs.History.{point_in}
use Rattle.cow_volume.specs.Calls.{IsQuiet, IsUnfailed, VolumeRose, AreaRose, IsSameDevice, is_among, revert_message as volume_message}
use Rattle.cow_volume.specs.OneVolume.{blocks_of, image_sets, IsOneRevert}
use Rattle.cow_volume.specs.declared.image_fault.ImageFault.{ImageFault}
use Rattle.cow_volume.specs.declared.image_fault.ImageFault.TheVariants.{NoSuchImage, NoSuchBlock, Volume, Area}
use Rattle.cow_volume.specs.declared.revert_fault.RevertFault.TheVariants.{NoSuchImage as NoImage, Fault}
use Rattle.vss_recover.specs.Steps.{AreWithin, AreApart, IsFirstOut, IsFirstOverlap, owner_of, Step, IsNewest, IsAllowed, after}
use Rattle.vss_recover.specs.OverlayCalls.{count_in, lacks_room, kept_records, KeepsRecords}
use Rattle.vss_recover.specs.RecoverValue.{RecoverValue, StandsFor, all_tell}
use Rattle.vss_recover.specs.Recoveries.{Recovering, shown, kept_window, kept_final, with_final}
use Rattle.vss_recover.specs.Steps.Step.{Closed, Reverted, RevertedInPart}
use Rattle.vss_recover.specs.declared.claim.Claim.{Claim}
use Rattle.vss_recover.specs.declared.open_fault.OpenFault.{OpenFault}
use Rattle.vss_recover.specs.declared.open_fault.OpenFault.TheVariants.{NoSuchImage as NotStanding, NotNewest, AlreadyOpen, Final, BadRange, Overlap}
use Rattle.vss_recover.specs.declared.open_fault.OpenFault.TheVariants as opening
use Rattle.vss_recover.specs.declared.recover_fault.RecoverFault.{RecoverFault}
use Rattle.vss_recover.specs.declared.recover_fault.RecoverFault.TheVariants.{NotOpen, NoSuchBlock as NoBlock, NotOwner, Full, Area as OverlayFailed}
use Rattle.vss_recover.specs.declared.recover_fault.RecoverFault.TheVariants as recover
use Rattle.vss_recover.specs.declared.recover_revert.RecoverRevert.{RecoverRevert}
use Rattle.vss_recover.specs.declared.recover_revert.RecoverRevert.TheVariants.{Recovered, Other}
use Rattle.vss_recover.specs.declared.recover_revert.RecoverRevert.TheVariants as revert

-- ## What the calls on a volume with recovery writes come to: of the volume beneath they say what its own calls do, and of the overlay,
-- the window and the final sets what stays and what goes. (This project's own.)

-- no set is 0, so no image has that
abbrev pub HasImage : {D : Type 0} → RecoverValue D → ℕ → Type 0
HasImage v set = (0 < set) × (is_among set (image_sets v.volume) ≡ true)

-- the step may be taken, and the volume stands for what it leaves
abbrev pub IsStep : {D : Type 0} → (D → Option (List (List ℕ))) → RecoverValue D → RecoverValue D → Step → Type 0
IsStep told old new s = (h : Recovering) → StandsFor told old h → IsAllowed (blocks_of old.volume) h s × StandsFor told new (after (blocks_of old.volume) h s)

-- ## beside the volume

-- the overlay, the window and the final sets are as they were
pub record IsBeside {D : Type 0} (old new : RecoverValue D) : Type 0 where
  pub overlay : new.overlay ≡ old.overlay
  pub window : new.window ≡ old.window
  pub claims : new.claims ≡ old.claims
  pub final : new.final ≡ old.final

-- the images that stand no more gave their overlay slots back; their window is closed, and they are not final
pub record IsSettled {D : Type 0} (old new : RecoverValue D) : Type 0 where
  pub device : new.overlay.device ≡ old.overlay.device
  pub volumes : new.overlay.volumes ≡ old.overlay.volumes
  pub records : new.overlay.records ≡ kept_records (image_sets new.volume) old.overlay.records
  pub window : new.window ≡ kept_window (image_sets new.volume) old.window
  pub claims : new.claims ≡ old.claims
  pub final : new.final ≡ kept_final (image_sets new.volume) old.final

-- the same after a write for which the images up to a set went, 0 where none did
abbrev pub IsSettledUpTo : {D : Type 0} → ℕ → RecoverValue D → RecoverValue D → Type 0
IsSettledUpTo zero old new = IsBeside old new
IsSettledUpTo (suc up_to) old new = IsSettled old new

abbrev pub IsDropped : {D : Type 0} → RecoverValue D → RecoverValue D → Result Unit ImageFault → Type 0
IsDropped old new (Ok done) = IsSettled old new
IsDropped old new (Err fault) = new ≡ old

-- ## reads of an image

-- nothing changed but counts of devices
pub record IsReadAlone {D : Type 0} (ghosts : Ghosts D) (old new : RecoverValue D) : Type 0 where
  pub volume : IsQuiet ghosts old.volume new.volume
  pub overlay : KeepsRecords ghosts old.overlay new.overlay
  pub window : new.window ≡ old.window
  pub claims : new.claims ≡ old.claims
  pub final : new.final ≡ old.final

-- no device failed
pub record AreUnfailed {D : Type 0} (count : D → ℕ) (old new : RecoverValue D) : Type 0 where
  pub volume : IsUnfailed count old.volume new.volume
  pub overlay : count new.overlay.device ≡ count old.overlay.device

-- the count of the overlay's device rose, and no other
pub record OverlayRose {D : Type 0} (count : D → ℕ) (old new : RecoverValue D) : Type 0 where
  pub rose : Rose (count old.overlay.device) (count new.overlay.device)
  pub volume : new.volume ≡ old.volume

-- why block b of the image of a set was not read: the first cause that stands
abbrev pub HasReadCause : {D : Type 0} → (D → ℕ) → ℕ → ℕ → RecoverValue D → RecoverValue D → ImageFault → Type 0
HasReadCause count set b old new NoSuchImage = (is_among set (image_sets old.volume) ≡ false) × (new ≡ old)
HasReadCause count set b old new NoSuchBlock = (is_among set (image_sets old.volume) ≡ true) × (blocks_of old.volume ≤ b) × (new ≡ old)
HasReadCause count set b old new Volume = (is_among set (image_sets old.volume) ≡ true) × (b < blocks_of old.volume) × VolumeRose count 0 old.volume new.volume × (new.overlay ≡ old.overlay)
HasReadCause count set b old new Area = (is_among set (image_sets old.volume) ≡ true) × (b < blocks_of old.volume)
    × ((AreaRose count old.volume new.volume × (new.overlay ≡ old.overlay)) ⊎ OverlayRose count old new)

-- the bytes are those that the image of a set shows of block b, where all devices tell
abbrev pub IsShown : {D : Type 0} → (D → Option (List (List ℕ))) → RecoverValue D → ℕ → ℕ → List ℕ → Type 0
IsShown told v set b bytes = (h : Recovering) (p : ℕ) → StandsFor told v h → all_tell told v ≡ true → point_in set h.volume.images ≡ Some p → bytes ≡ shown h set p b

-- ## the window

-- an image of the set stands, and it is the newest
abbrev pub IsNewestOf : {D : Type 0} → RecoverValue D → ℕ → Type 0
IsNewestOf v set = HasImage v set × IsNewest (image_sets v.volume) set

-- and its window is not open, and was not closed
abbrev pub MayOpen : {D : Type 0} → RecoverValue D → ℕ → Type 0
MayOpen v set = IsNewestOf v set × (v.window ≡ None) × (is_among set v.final ≡ false)

abbrev pub with_window : {D : Type 0} → ℕ → List Claim → RecoverValue D → RecoverValue D
with_window set claims v = record { volume = v.volume; overlay = v.overlay; window = Some set; claims = claims; final = v.final }

-- why no window is opened: the first cause that stands
abbrev pub HasOpenCause : {D : Type 0} → RecoverValue D → ℕ → List Claim → OpenFault → Type 0
HasOpenCause v set claims NotStanding = HasImage v set → ⊥
HasOpenCause v set claims (NotNewest newest) = HasImage v set × IsNewest (image_sets v.volume) newest × (newest ≡ set → ⊥)
HasOpenCause v set claims (AlreadyOpen other) = IsNewestOf v set × (v.window ≡ Some other)
HasOpenCause v set claims Final = IsNewestOf v set × (v.window ≡ None) × (is_among set v.final ≡ true)
HasOpenCause v set claims (BadRange claim) = MayOpen v set × IsFirstOut (blocks_of v.volume) claims claim
HasOpenCause v set claims (Overlap first second) = MayOpen v set × AreWithin (blocks_of v.volume) claims × IsFirstOverlap claims first second

-- a window is opened, or nothing changed
abbrev pub IsOpened : {D : Type 0} → RecoverValue D → RecoverValue D → ℕ → List Claim → Result Unit OpenFault → Type 0
IsOpened old new set claims (Ok done) = MayOpen old set × AreWithin (blocks_of old.volume) claims × AreApart claims × (new ≡ with_window set claims old)
IsOpened old new set claims (Err fault) = HasOpenCause old set claims fault × (new ≡ old)

-- the window was closed, and its image is final; or none was open
abbrev pub IsClosed : {D : Type 0} → RecoverValue D → RecoverValue D → Option ℕ → Type 0
IsClosed old new (Some set) = (old.window ≡ Some set)
    × (new ≡ record { volume = old.volume; overlay = old.overlay; window = None; claims = old.claims; final = with_final set (image_sets old.volume) old.final })
IsClosed old new None = (old.window ≡ None) × (new ≡ old)

abbrev pub IsClosingStep : {D : Type 0} → (D → Option (List (List ℕ))) → RecoverValue D → RecoverValue D → Option ℕ → Type 0
IsClosingStep told old new (Some set) = IsStep told old new (Closed set)
IsClosingStep told old new None = Unit {0}

-- the window of the set is open, and the block is one of the volume's and of a claim of the writer's
pub record IsClaimed {D : Type 0} (v : RecoverValue D) (set writer b : ℕ) : Type 0 where
  pub window : v.window ≡ Some set
  pub in_range : b < blocks_of v.volume
  pub owner : owner_of v.claims b ≡ Some writer

-- only the overlay may have changed, and only its device's blocks and records
pub record IsOverlayAlone {D : Type 0} (ghosts : Ghosts D) (old new : RecoverValue D) : Type 0 where
  pub volume : new.volume ≡ old.volume
  pub device : IsSameDevice ghosts old.overlay.device new.overlay.device
  pub volumes : new.overlay.volumes ≡ old.overlay.volumes
  pub slots : length new.overlay.records ≡ length old.overlay.records
  pub window : new.window ≡ old.window
  pub claims : new.claims ≡ old.claims
  pub final : new.final ≡ old.final

-- a recovery write was made, or the first cause that stands is told
abbrev pub IsRecoverWrite : {D : Type 0} → Ghosts D → RecoverValue D → RecoverValue D → ℕ → ℕ → ℕ → Result Unit RecoverFault → Type 0
IsRecoverWrite ghosts old new set writer b (Ok done) = IsClaimed old set writer b × (lacks_room old.overlay.records set b ≡ false) × IsOverlayAlone ghosts old new
    × (ghosts.count new.overlay.device ≡ ghosts.count old.overlay.device)
IsRecoverWrite ghosts old new set writer b (Err NotOpen) = (old.window ≡ Some set → ⊥) × (new ≡ old)
IsRecoverWrite ghosts old new set writer b (Err NoBlock) = (old.window ≡ Some set) × (blocks_of old.volume ≤ b) × (new ≡ old)
IsRecoverWrite ghosts old new set writer b (Err (NotOwner owner)) = (old.window ≡ Some set) × (b < blocks_of old.volume) × (owner ≡ owner_of old.claims b)
    × (owner ≡ Some writer → ⊥) × (new ≡ old)
IsRecoverWrite ghosts old new set writer b (Err Full) = IsClaimed old set writer b × (lacks_room old.overlay.records set b ≡ true) × (new ≡ old)
IsRecoverWrite ghosts old new set writer b (Err OverlayFailed) = IsClaimed old set writer b × (lacks_room old.overlay.records set b ≡ false)
    × (new.volume ≡ old.volume) × KeepsRecords ghosts old.overlay new.overlay × Rose (ghosts.count old.overlay.device) (ghosts.count new.overlay.device)
    × (new.window ≡ old.window) × (new.claims ≡ old.claims) × (new.final ≡ old.final)

-- ## revert

-- the volume was brought back to the image of a set, or not; an image that has recovered blocks is never
abbrev pub IsReverted : {D : Type 0} → Ghosts D → RecoverValue D → RecoverValue D → ℕ → Result Unit RecoverRevert → Type 0
IsReverted ghosts old new set (Ok done) = (count_in set old.overlay.records ≡ 0) × IsOneRevert ghosts old.volume new.volume set (Ok done) × IsSettled old new
IsReverted ghosts old new set (Err (Recovered blocks)) = (is_among set (image_sets old.volume) ≡ true) × (0 < blocks) × (blocks ≡ count_in set old.overlay.records) × (new ≡ old)
IsReverted ghosts old new set (Err (Other NoImage)) = (is_among set (image_sets old.volume) ≡ false) × (new ≡ old)
IsReverted ghosts old new set (Err (Other (Fault restored cause))) = (count_in set old.overlay.records ≡ 0)
    × IsOneRevert ghosts old.volume new.volume set (Err (Fault restored cause)) × IsSettled old new

-- and what the step was, of an image with its point
abbrev pub IsRevertStep : {D : Type 0} → (D → Option (List (List ℕ))) → RecoverValue D → RecoverValue D → ℕ → Result Unit RecoverRevert → Type 0
IsRevertStep told old new set (Ok done) = (h : Recovering) (p : ℕ) → StandsFor told old h → point_in set h.volume.images ≡ Some p
    → IsAllowed (blocks_of old.volume) h (Reverted set p) × StandsFor told new (after (blocks_of old.volume) h (Reverted set p))
IsRevertStep told old new set (Err (Other (Fault restored cause))) = (h : Recovering) (p : ℕ) → StandsFor told old h → point_in set h.volume.images ≡ Some p
    → IsAllowed (blocks_of old.volume) h (RevertedInPart set p restored) × StandsFor told new (after (blocks_of old.volume) h (RevertedInPart set p restored))
IsRevertStep told old new set (Err (Other NoImage)) = Unit {0}
IsRevertStep told old new set (Err (Recovered blocks)) = Unit {0}

-- ## What is said of a window that was not opened, of a recovery write that was not made, and of a volume that was not
-- brought back to an image. (This project's own.)

abbrev pub open_message : OpenFault → List ℕ
open_message opening.NoSuchImage = codes "no such image"
open_message (opening.NotNewest newest) = codes "the newest image is of set " ++ decimal newest
open_message (opening.AlreadyOpen set) = codes "the window of set " ++ decimal set ++ codes " is open"
open_message opening.Final = codes "the image is final"
open_message (opening.BadRange claim) = codes "claim " ++ decimal claim ++ codes " is out of range"
open_message (opening.Overlap first second) = codes "claims " ++ decimal first ++ codes " and " ++ decimal second ++ codes " overlap"

abbrev pub recover_message : RecoverFault → List ℕ
recover_message recover.NotOpen = codes "the window is not open"
recover_message recover.NoSuchBlock = codes "no such block"
recover_message (recover.NotOwner None) = codes "no writer claims the block"
recover_message (recover.NotOwner (Some owner)) = codes "writer " ++ decimal owner ++ codes " claims the block"
recover_message recover.Full = codes "the overlay is full"
recover_message recover.Area = codes "the overlay's device failed"

abbrev pub revert_message : RecoverRevert → List ℕ
revert_message (revert.Recovered blocks) = codes "writers changed " ++ decimal blocks ++ codes " blocks of the image"
revert_message (revert.Other fault) = volume_message fault
