-- The laws of levels and of their texts.
pub mod Horner
pub mod Words
pub mod FirstLine
pub mod Shape
pub mod Checking
pub mod Judging
pub mod Filling
pub mod Writing
pub mod Outcome
pub mod Refusals
