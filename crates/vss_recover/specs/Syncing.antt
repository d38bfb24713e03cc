-- What is left of a volume with recovery writes where its records are brought to where they last, and when it is taken up again from its parts.
use Rattle.std.specs.Prelude.{ℕ, ◌≡◌, true, List, [], Option, None, is_some, ◌⊎◌, Some, IfSome, option_map, slice_get, length, Result, Ok, Err}
use Rattle.vss_names.specs.Faults.{Rose}
use Rattle.volume_device.specs.declared.device.Device.{Ghosts}
use Rattle.write_history.specs.Slots.{Copy}
use Rattle.diff_area.specs.AreaValue.{AreaValue, AreInPart, with_first, table_blocks}
use Rattle.diff_area.specs.Copies.{AreHeld}
use Rattle.diff_area.specs.Format.{place_of_slot}
use Rattle.diff_area.specs.declared.table_record.Record.{Record}
use Rattle.cow_volume.specs.Calls.{IsSameDevice}
use Rattle.cow_volume.specs.Ending.{IsTable}
use Rattle.cow_volume.specs.StandsFor.{GroupValue}
use Rattle.cow_volume.specs.OneVolume.{image_sets, IsOneSync}
use Rattle.cow_volume.specs.Resuming.{AllHaveImages, IsFirstWithoutImage}
use Rattle.cow_volume.specs.declared.cause.Cause.{Cause}
use Rattle.cow_volume.specs.declared.cause.Cause.TheVariants.{Area}
use Rattle.cow_volume.specs.declared.resume_fault.ResumeFault.{ResumeFault}
use Rattle.cow_volume.specs.declared.resume_fault.ResumeFault.TheVariants.{NoImage, OutOfMemory}
use Rattle.vss_recover.specs.RecoverValue.{RecoverValue}
use Rattle.vss_recover.specs.Recoveries.{Recovering, kept_final}

-- ## When a volume with recovery writes is taken up again from its parts. (This project's own.)

-- no window is open, and the sets that have no image are not final
abbrev pub taken_up : {D : Type 0} → GroupValue D → AreaValue D → List ℕ → RecoverValue D
taken_up volume overlay final = record { volume = volume; overlay = overlay; window = None; claims = []; final = kept_final (image_sets volume) final }

abbrev pub unopened : Recovering → Recovering
unopened h = record { volume = h.volume; recoveries = h.recoveries; window = None; claims = []; final = h.final }

-- why it is not taken up: the first record that lacks its image, or want of memory, where each record has its image
abbrev pub IsRefused : List Record → List (List ℕ) → ResumeFault → Type 0
IsRefused records images (NoImage slot set) = IsFirstWithoutImage records images slot set
IsRefused records images OutOfMemory = AllHaveImages records images

-- Two areas whose devices tell have the same copies in their slots: so an overlay that was synced and the area that is loaded from what
-- its device held then (`stored` of the sync, and then `copies` of the load).
pub record HasCopiesOf {D : Type 0} (told : D → Option (List (List ℕ))) (was now : AreaValue D) : Type 0 where
  pub told_before : is_some (told was.device) ≡ true
  pub tells : is_some (told now.device) ≡ true
  pub copies : (copies : List Copy) → AreHeld (told was.device) was.records copies → AreHeld (told now.device) now.records copies

-- ## What is left of a volume with recovery writes where the records of its copies and of its recovered blocks are written to their areas
-- and brought to where they last. (This project's own.)

-- only what an area's device has before its slots may have changed
pub record KeepsSlots {D : Type 0} (ghosts : Ghosts D) (old new : AreaValue D) : Type 0 where
  pub volumes : new.volumes ≡ old.volumes
  pub records : new.records ≡ old.records
  pub device : IsSameDevice ghosts old.device new.device
  pub slots : (slot : ℕ) (bytes : List ℕ) → IfSome (ghosts.told old.device) (λ blocks. slice_get blocks (place_of_slot (length old.records) slot) ≡ Some bytes)
      → IfSome (ghosts.told new.device) (λ blocks. slice_get blocks (place_of_slot (length old.records) slot) ≡ Some bytes)

-- the window, its claims and the final sets are as they were
pub record KeepsSaid {D : Type 0} (old new : RecoverValue D) : Type 0 where
  pub window : new.window ≡ old.window
  pub claims : new.claims ≡ old.claims
  pub final : new.final ≡ old.final

-- the overlay's header and table are on its device, or where that failed the first few of their blocks
abbrev pub IsOverlayTable : {D E : Type 0} → (D → Option (List (List ℕ))) → AreaValue D → AreaValue D → Result Unit E → Type 0
IsOverlayTable told old new (Ok done) = told new.device ≡ option_map (with_first (table_blocks old.volumes old.records)) (told old.device)
IsOverlayTable told old new (Err fault) = AreInPart (table_blocks old.volumes old.records) (told old.device) (told new.device)

-- the volume was synced, as this says
abbrev pub IsVolumeSync : {D : Type 0} → Ghosts D → RecoverValue D → RecoverValue D → Result Unit Cause → Type 0
IsVolumeSync ghosts old new result = IsOneSync ghosts old.volume new.volume result × IsTable ghosts.told old.volume new.volume result

-- the overlay's table was written, as this says
abbrev pub IsOverlaySync : {D : Type 0} → Ghosts D → RecoverValue D → RecoverValue D → Result Unit Cause → Type 0
IsOverlaySync ghosts old new result = KeepsSlots ghosts old.overlay new.overlay × IsOverlayTable ghosts.told old.overlay new.overlay result

-- the volume was synced, and then the overlay; or a device failed: that of the volume's area, and the overlay is as it was; or the
-- overlay's
abbrev pub IsRecoverSync : {D : Type 0} → Ghosts D → RecoverValue D → RecoverValue D → Result Unit Cause → Type 0
IsRecoverSync ghosts old new (Ok done) =
    IsVolumeSync ghosts old new (Ok done) × IsOverlaySync ghosts old new (Ok done) × (ghosts.count new.overlay.device ≡ ghosts.count old.overlay.device)
IsRecoverSync ghosts old new (Err cause) = (cause ≡ Area)
    × ((IsVolumeSync ghosts old new (Err cause) × (new.overlay ≡ old.overlay))
    ⊎ (IsVolumeSync ghosts old new (Ok tt) × IsOverlaySync ghosts old new (Err cause) × Rose (ghosts.count old.overlay.device) (ghosts.count new.overlay.device)))
