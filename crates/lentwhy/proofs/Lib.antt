-- Laws that belong to no one function.
pub mod Spelling
pub mod Coincide
