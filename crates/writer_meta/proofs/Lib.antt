pub mod Inversions
pub mod Lists
pub mod Laws
