pub mod Agreement
pub mod Held
pub mod Rebuilt
