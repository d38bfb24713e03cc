pub mod Beginning
pub mod Coordinator
pub mod Effects
pub mod KeptCourse
pub mod RunningAgenda
pub mod OpenOrders
