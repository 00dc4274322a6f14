-- 01, "Refusal numbers | Given exactly when": for each call and each record, and for each refusal, an if-and-only-if
-- over arguments, bytes and state. A reason is listed for every refusal of the list; where a call never gives one,
-- its reason is empty.
pub mod Numbers
pub mod Sends
pub mod Calls
pub mod Whole
pub mod Record
pub mod Answers
pub mod All
