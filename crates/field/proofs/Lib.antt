-- Why the functions are right.
pub mod Rules
pub mod Elements
pub mod Twice
pub mod Doubling
