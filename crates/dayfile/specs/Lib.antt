-- The day file (02 P9, P10): the file of a list of reports, writing, reading and mending.
pub mod File
pub mod Runs
pub mod Lent
pub mod Writing
pub mod Reading
pub mod Calls
pub mod Claims
pub mod Mending
pub mod Kept
