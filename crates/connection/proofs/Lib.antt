-- Laws that belong to no one function.
pub mod Recorded
pub mod OpeningRecords
pub mod Asking
pub mod Stepping
pub mod Running
pub mod Pointing
pub mod Filling
pub mod Sending
pub mod Replying
pub mod Tallying
pub mod Coincide
