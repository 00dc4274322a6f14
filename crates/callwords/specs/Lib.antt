-- What the words of a line say.
pub mod Call
pub mod Short
