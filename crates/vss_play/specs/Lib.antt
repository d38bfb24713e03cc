pub mod Played
pub mod Running
pub mod Made
pub mod Closing
pub mod Asking
pub mod Acting
pub mod Serving
