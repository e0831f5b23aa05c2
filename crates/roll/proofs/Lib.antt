-- The laws of rolls.
pub mod Parts
