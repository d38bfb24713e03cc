pub mod TextParts
pub mod Whole
pub mod Growing
pub mod Places
pub mod Kept
pub mod Named
