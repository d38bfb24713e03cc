pub mod AreaValue
pub mod Copies
pub mod Format
pub mod Loading
pub mod ReadRows
pub mod Refusals
