-- What the exported calls of the shipboard end cite: the places of a saved unit and of an answer, and what each call leaves. The
-- tally, the fields and the parts of an answer's number are `lent`'s.
pub mod Saved
pub mod Report
pub mod Calls
