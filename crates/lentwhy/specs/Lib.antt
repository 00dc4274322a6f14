pub mod Facts
pub mod Calls
