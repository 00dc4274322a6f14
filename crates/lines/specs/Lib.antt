-- What the words of a line say.
pub mod Words
pub mod Hex
pub mod Decimal
pub mod Said
pub mod Shown
