-- The laws behind the equations.
pub mod Expand
pub mod Depths
pub mod Multiples
pub mod Chunks
pub mod Systems
pub mod Outcome
