-- Laws that belong to no one function.
pub mod Picks
pub mod Lay
pub mod Rounds
pub mod Absorb
pub mod Hashing
pub mod Codes
pub mod Terms
pub mod Same
pub mod Editions
pub mod Coincide
