-- What the functions of the field arithmetic answer.
pub mod Arithmetic
pub mod Binomial
pub mod Width
