pub mod Refusals
pub mod Moving
pub mod Shown
pub mod Making
pub mod Reading
pub mod Performing
pub mod Simulating
