-- What the proofs of the functions for C rest on.
pub mod Small
