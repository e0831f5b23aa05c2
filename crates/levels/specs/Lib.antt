-- What the functions on levels are given, and hand one another.
pub mod Base
pub mod Lines
