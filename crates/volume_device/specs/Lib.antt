pub mod InMemory
pub mod Messages
pub mod OnHost
