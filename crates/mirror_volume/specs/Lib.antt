pub mod Contract
pub mod Stale
pub mod Mirrors
pub mod MirrorCalls
pub mod Resync
pub mod Replies
