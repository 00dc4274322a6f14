-- The refusals, exactly when.
pub mod Reasons
pub mod Sends
pub mod Calls
pub mod Reading
pub mod Whole
pub mod Content
pub mod Hello
pub mod Record
pub mod Answers
