-- The definitions of layer 1, digest and MAC.
pub mod Pick
pub mod Bytes
pub mod Sha1
pub mod Midway
pub mod Hasher
pub mod Hmac
pub mod Expansion
pub mod Mac
pub mod Named
pub mod Edition
pub mod Determined
