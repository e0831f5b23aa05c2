-- Chunks, and what the functions on rows are given.
pub mod Tables
pub mod Chunk
