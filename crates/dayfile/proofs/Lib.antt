-- Laws that belong to no one function.
pub mod Laying
pub mod Fronts
pub mod Running
pub mod Trailing
pub mod Lending
pub mod Looking
pub mod Claimed
pub mod Coincide
pub mod Mendings
pub mod Keeping
