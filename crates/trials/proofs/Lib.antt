mod OneProvider
pub mod Few
