-- The words of devices and of volumes on them, from one place.
pub use Rattle.block_data.specs.BlockBytes.{sha256, HasTaken, payload_bytes}
pub use Rattle.block_data.specs.declared.hasher.Hasher.{Hasher}
pub use Rattle.block_data.specs.declared.payload.Payload.{Payload}
pub use Rattle.cow_volume.specs.Calls.{AreaRose, DeviceRose, HasImageCause, IsChanged, IsEvicted, IsKept, IsQuiet, IsRevert, IsSameDevice, IsSeen, IsUnfailed, LastsAt, NeverFails, StillLasts, VolumeRose}
pub use Rattle.cow_volume.specs.Calls.{blocks_at}
pub use Rattle.cow_volume.specs.Calls.{blocks_in, changed_at, counted_as, counted_by, history_at, history_in, is_among, is_there, made_room, sets_at, sets_in, uncounted}
pub use Rattle.cow_volume.specs.Changes.{gone_row}
pub use Rattle.cow_volume.specs.Ending.{AllTell, IsSync, IsSynced}
pub use Rattle.cow_volume.specs.StandsFor.{GroupValue, placed, StandsFor, told_in}
pub use Rattle.cow_volume.specs.Parts.{IsUnseen}
pub use Rattle.cow_volume.specs.Room.{HasRoom, gone_group, holders, images_going, lacks_slot}
pub use Rattle.cow_volume.specs.Steps.{IsPutOr}
pub use Rattle.cow_volume.specs.declared.cause.Cause.{Cause}
pub use Rattle.cow_volume.specs.declared.cause.Cause.TheVariants.{Area, NoSuchBlock, Volume}
pub use Rattle.cow_volume.specs.declared.image_fault.ImageFault.{ImageFault}
pub use Rattle.cow_volume.specs.declared.image_fault.ImageFault.TheVariants.{NoSuchImage}
pub use Rattle.cow_volume.specs.declared.revert_fault.RevertFault.{RevertFault}
pub use Rattle.cow_volume.specs.declared.revert_fault.RevertFault.TheVariants.{Fault}
pub use Rattle.diff_area.specs.Copies.{AreStored}
pub use Rattle.hex.specs.Hex.{IsBytes}
pub use Rattle.provider.specs.declared.digested.Digested.{Digested}
pub use Rattle.volume_device.specs.declared.device.Device.{Ghosts}
