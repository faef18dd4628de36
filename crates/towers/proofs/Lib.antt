pub mod Steps
pub mod Encodings
pub mod Places
pub mod Calls
