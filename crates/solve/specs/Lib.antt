-- What the contracts of the elimination say.
pub mod Table
pub mod System
pub mod Answer
pub mod Step
pub mod Multiples
