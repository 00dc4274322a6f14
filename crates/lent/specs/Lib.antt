-- What the exported calls cite: the places of a saved connection, of an answer and of a tally, and what each call
-- leaves.
pub mod Fields
pub mod Saved
pub mod Report
pub mod Counts
pub mod Calls
pub mod Macs
