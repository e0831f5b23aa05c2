-- What finding a pair asks and answers, and the equations behind it.
pub mod Found
pub mod Equation
pub mod Fill
