-- Laws that belong to no one function, and theorems about the definitions.
pub mod Walking
pub mod Headings
pub mod Sums
pub mod Laying
pub mod Keeping
pub mod Steps
pub mod Places
pub mod Always
pub mod Finishing
pub mod Mapping
pub mod Counted
pub mod Meaning
pub mod References
pub mod Messages
pub mod Runs
pub mod Coincide
