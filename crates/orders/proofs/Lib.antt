pub mod Goers
pub mod Beside
pub mod Replay
pub mod Far
