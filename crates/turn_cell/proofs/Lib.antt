pub mod Lists
pub mod SeatSteps
pub mod Callers
pub mod Calling
pub mod Crossing
