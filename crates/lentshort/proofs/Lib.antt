-- Laws that belong to no one function.
pub mod Rows
pub mod Spelling
pub mod Back
pub mod Laying
pub mod Stepping
pub mod Calling
pub mod Coincide
