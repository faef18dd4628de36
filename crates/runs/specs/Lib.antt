pub mod Limits
pub mod Faults
pub mod States
pub mod Calls
pub mod Laws
pub mod Views
pub mod Simulations
