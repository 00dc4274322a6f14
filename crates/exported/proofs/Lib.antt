-- The proofs about runs of the exported calls.
pub mod Runs
