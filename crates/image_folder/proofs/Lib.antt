mod BlockSums
mod Joins
