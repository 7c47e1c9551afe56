pub mod Bounds
pub mod Login
pub mod Faults
pub mod Fields
pub mod Changes
