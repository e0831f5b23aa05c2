-- What the functions that write a text hand one another.
pub mod Text
