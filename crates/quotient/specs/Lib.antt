-- What the steps of long division say.
pub mod Quotient
