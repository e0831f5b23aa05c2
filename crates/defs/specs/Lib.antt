-- What a reader must believe, in reading order.
pub mod Field
pub mod Place
pub mod Row
pub mod Distance
pub mod Pair
pub mod Refusal
pub mod Limits
pub mod Encode
pub mod Decode
pub mod Slip
pub mod Write
pub mod Read
pub mod Text
pub mod Line
pub mod Roll
pub mod Turn
pub mod Levels
