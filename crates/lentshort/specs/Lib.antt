-- What the calls on a lent gatherer cite: its places, what each call leaves, and a message taken on lent bytes.
pub mod Saved
pub mod Said
pub mod Calls
pub mod Gathered
pub mod Message
