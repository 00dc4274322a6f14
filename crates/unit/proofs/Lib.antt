-- Laws that belong to no one function.
pub mod Parts
pub mod Running
pub mod Greeting
pub mod Flights
pub mod Agreeing
pub mod Sending
pub mod Coincide
