pub mod Steps
pub mod Recoveries
pub mod RecoverValue
pub mod Calls
pub mod OverlayCalls
pub mod Syncing
