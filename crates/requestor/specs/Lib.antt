pub mod Session
pub mod Check
pub mod Requestor
