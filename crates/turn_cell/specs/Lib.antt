pub mod Callers
pub mod History
pub mod Rule
pub mod Steps
