-- What the check of a code hands over, and what a chunk is.
pub mod Checked
pub mod Chunk
