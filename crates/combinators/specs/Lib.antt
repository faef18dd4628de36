pub mod Kinds
pub mod Lifts
pub mod Frames
pub mod Choices
pub mod LiftsLemmas
