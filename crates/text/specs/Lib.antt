-- What the functions on texts promise.
pub mod Handed
pub mod Number
pub mod Piece
