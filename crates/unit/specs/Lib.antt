-- The definitions of the shipboard end.
pub mod State
pub mod Answer
pub mod Step
pub mod Clear
pub mod Protected
pub mod Unit
pub mod Agree
pub mod Judge
pub mod Receive
pub mod Send
pub mod Hello
pub mod Calls
pub mod Tally
