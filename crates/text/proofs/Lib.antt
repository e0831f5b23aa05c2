-- The laws of decimal numbers and of texts.
pub mod Decimal
pub mod Handing
pub mod Numbers
pub mod Back
