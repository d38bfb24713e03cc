pub mod OnDevice
pub mod ByPlace
pub mod GoodRecords
pub mod HeaderBytes
pub mod Keeping
pub mod TableBytes
