-- What the proofs of the functions cite.
pub mod Outcome
pub mod Search
