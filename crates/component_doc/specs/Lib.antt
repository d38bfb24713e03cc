pub mod Selection
pub mod Over
pub mod Document
pub mod Reading
pub mod Refusal
