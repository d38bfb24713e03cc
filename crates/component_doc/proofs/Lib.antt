pub mod Order
pub mod Known
pub mod ReadBack
pub mod Named
pub mod Told
