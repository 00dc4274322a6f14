-- Laws that belong to no one function.
pub mod Laying
pub mod Reading
pub mod Calling
pub mod Numbers
pub mod Within
pub mod PartsOf
pub mod Sums
pub mod Back
pub mod TallyHolds
pub mod Results
pub mod Sizes
pub mod Coincide
pub mod MacParts
