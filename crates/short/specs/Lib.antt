-- The definitions of the call above receive (02, P2).
pub mod Message
pub mod Meaning
