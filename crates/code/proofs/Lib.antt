-- The laws behind the check of a code, and those of chunks.
pub mod Search
pub mod Numbers
pub mod Outcome
pub mod Chunks
pub mod Known
