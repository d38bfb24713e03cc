pub mod Counts
pub mod Standing
pub mod Held
pub mod Contracts
pub mod Keeping
pub mod HavingSaid
pub mod Flushing
