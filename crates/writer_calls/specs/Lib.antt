pub mod Mailbox
pub mod Script
