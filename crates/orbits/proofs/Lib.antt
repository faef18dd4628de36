pub mod Orbits
