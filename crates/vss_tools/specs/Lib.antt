pub mod Drawn
pub mod Ended
pub mod Lines
pub mod Refused
