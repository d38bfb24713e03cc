pub mod Sets
pub mod Keeps
pub mod Concluded
pub mod Moves
pub mod Words
