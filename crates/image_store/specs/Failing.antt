-- Which device failed in a call, by the counts of faults. (This project's own.)
use Rattle.std.specs.Prelude.{ℕ, ◌≡◌}
use Rattle.vss_names.specs.Faults.{Rose}
use Rattle.cow_volume.specs.Calls.{AreaRose, DeviceRose, IsUnfailed, VolumeRose}
use Rattle.cow_volume.specs.StandsFor.{GroupValue}
use Rattle.cow_volume.specs.declared.cause.Cause.{Cause}
use Rattle.cow_volume.specs.declared.cause.Cause.TheVariants.{NoSuchBlock, Volume as of_volume, Area as of_area}
use Rattle.cow_volume.specs.declared.revert_fault.RevertFault.{RevertFault}
use Rattle.cow_volume.specs.declared.revert_fault.RevertFault.TheVariants.{NoSuchImage as no_image, Fault}
use Rattle.image_store.specs.declared.pass_fault.PassFault.{PassFault}
use Rattle.image_store.specs.declared.pass_fault.PassFault.TheVariants.{Input, Volume, Area}
use Rattle.image_store.specs.declared.show_fault.ShowFault.{ShowFault}
use Rattle.image_store.specs.declared.show_fault.ShowFault.TheVariants.{NoSuchImage, BadLength, Volume as VolumeFailed, Area as AreaFailed, Sink}

-- in a pass over volume v: the other device, whose count was and is this, the volume's, or the area's; and no other
abbrev pub IsPassFault : {D : Type 0} → (D → ℕ) → ℕ → GroupValue D → GroupValue D → ℕ → ℕ → PassFault → Type 0
IsPassFault count v old new before now Input = IsUnfailed count old new × Rose before now
IsPassFault count v old new before now Volume = VolumeRose count v old new × (now ≡ before)
IsPassFault count v old new before now Area = AreaRose count old new × (now ≡ before)

-- a fault of the group, as a fault of a pass
abbrev pub of_cause : Cause → PassFault
of_cause NoSuchBlock = Volume
of_cause of_volume = Volume
of_cause of_area = Area

-- in a revert of volume v
abbrev pub IsRevertFault : {D : Type 0} → (D → ℕ) → ℕ → GroupValue D → GroupValue D → RevertFault → Type 0
IsRevertFault count v old new no_image = new ≡ old
IsRevertFault count v old new (Fault restored cause) = DeviceRose count v old new cause

-- where volume v, or an image of it, is shown
abbrev pub IsShowFault : {D : Type 0} → (D → ℕ) → ℕ → GroupValue D → GroupValue D → ShowFault → Type 0
IsShowFault count v old new VolumeFailed = VolumeRose count v old new
IsShowFault count v old new AreaFailed = AreaRose count old new
IsShowFault count v old new NoSuchImage = IsUnfailed count old new
IsShowFault count v old new (BadLength found) = IsUnfailed count old new
IsShowFault count v old new Sink = IsUnfailed count old new
