-- What the functions that turn a slip hand one another.
pub mod Edition
