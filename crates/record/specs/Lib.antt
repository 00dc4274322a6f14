-- The definitions of layer 2, framing and window.
pub mod Header
pub mod Reader
pub mod Datagram
pub mod Window
pub mod History
pub mod Keys
pub mod Checksum
pub mod Written
pub mod Code
pub mod Protection
pub mod Cases
pub mod Mask
pub mod Bench
