-- The definitions of short messages (02, P2).
pub mod Refusal
pub mod Header
pub mod Slot
pub mod Answer
pub mod Gatherer
pub mod Map
