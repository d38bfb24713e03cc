pub mod Again
pub mod Back
pub mod Groups
pub mod Steps
