pub mod Words
pub mod Newest
pub mod Concluding
pub mod CourseSteps
pub mod Lines
pub mod Knowing
