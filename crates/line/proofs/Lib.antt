-- The laws of the line.
pub mod Lengths
pub mod Slips
pub mod Lines
pub mod Reading
pub mod Within
