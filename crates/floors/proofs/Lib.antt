pub mod Arithmetic
pub mod Asking
pub mod Places
pub mod Answering
pub mod AnyWindow
pub mod Laws
