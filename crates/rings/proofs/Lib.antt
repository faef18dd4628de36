pub mod Integers
pub mod Line
pub mod Ring
pub mod Local
pub mod Automaton
pub mod Packing
pub mod Transformations
pub mod Refusals
