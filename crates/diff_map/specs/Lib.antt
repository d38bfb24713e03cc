pub mod Copies
pub mod Counts
pub mod Groups
pub mod Links
pub mod Rules
