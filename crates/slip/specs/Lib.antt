-- What the slip's own functions hand one another.
pub mod Laid
pub mod Edition
pub mod Head
pub mod Written
