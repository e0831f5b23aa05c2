-- The laws behind the functions on chunks and rows, and the ways out of the calls.
pub mod Chunks
pub mod Lookup
pub mod Hasse
pub mod PointPowers
pub mod Writing
pub mod Measure
pub mod Outcome
