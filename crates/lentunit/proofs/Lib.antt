-- Laws that belong to no one function.
pub mod Calling
pub mod Reading
pub mod Parts
pub mod Back
pub mod There
pub mod Coincide
