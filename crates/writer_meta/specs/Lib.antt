pub mod Document
pub mod Metadata
pub mod Refusal
pub mod Values
