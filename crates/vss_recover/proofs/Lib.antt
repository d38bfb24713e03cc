pub mod Overlays
pub mod Standing
pub mod Counts
pub mod InParts
pub mod Taken
pub mod UsedSlots
pub mod TakenUp
pub mod Passing
