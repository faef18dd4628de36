pub mod Elementary
pub mod Maps
