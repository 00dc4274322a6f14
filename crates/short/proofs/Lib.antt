-- The proofs of the call above receive.
pub mod Taking
pub mod Meaning
pub mod Coincide
