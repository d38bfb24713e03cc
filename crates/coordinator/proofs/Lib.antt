pub mod Begun
pub mod Calls
pub mod Fitting
pub mod Following
pub mod GroupsAfter
pub mod Registering
pub mod OpenOrders
