-- The laws of what the words of a line say.
pub mod Digits
pub mod Held
pub mod Shown
