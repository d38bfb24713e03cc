pub mod GroupsLeft
pub mod WriterSets
pub mod Closings
pub mod Held
pub mod CourseRule
