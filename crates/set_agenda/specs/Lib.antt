pub mod Agenda
pub mod Limits
pub mod Course
pub mod Advance
pub mod WriterSet
pub mod Cursor
