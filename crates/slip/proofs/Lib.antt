-- The laws of slips.
pub mod Bits
pub mod Layouts
pub mod HeaderBits
pub mod Packed
pub mod Front
pub mod Writer
pub mod Reader
pub mod Taken
pub mod Canonical
pub mod Refusals
pub mod Answered
