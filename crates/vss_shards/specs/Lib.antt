pub mod Journals
pub mod Shards
pub mod Calls
pub mod OneMoment
