pub mod Telling
pub mod ReadReplies
pub mod Joined
pub mod LegibleWords
pub mod ReadLines
pub mod ReadTrail
pub mod ToldLegible
