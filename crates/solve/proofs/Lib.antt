-- The laws behind the elimination.
pub mod Steps
pub mod Columns
pub mod Free
pub mod Unknowns
pub mod Writes
pub mod Splice
pub mod Sixteens
