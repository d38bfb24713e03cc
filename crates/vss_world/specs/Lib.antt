pub mod Stands
pub mod Moves
pub mod Quiet
pub mod Changes
pub mod Words
