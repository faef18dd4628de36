pub mod Arrays
pub mod Drawings
pub mod Worked
