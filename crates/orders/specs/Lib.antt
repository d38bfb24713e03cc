pub mod Order
pub mod Followed
pub mod Drawn
pub mod Runs
pub mod Calls
pub mod Again
