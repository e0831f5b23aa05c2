-- The theory's own definitions, which no contract cites.
pub mod Bits
pub mod Fill
pub mod Limits
pub mod Poly
pub mod Vanish
pub mod Chunks
pub mod Key
pub mod Quotient
pub mod Demand3
