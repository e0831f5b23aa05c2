-- What the bytes of a frame stand for.
pub mod Call
