-- Runs of the exported calls, over the definitions that their contracts cite.
pub mod Runs
