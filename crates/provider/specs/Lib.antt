pub mod Groups
pub mod GroupCalls
pub mod Calls
pub mod Preparing
pub mod Words
