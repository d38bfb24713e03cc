pub mod Found
pub mod InMemory
pub mod Order
