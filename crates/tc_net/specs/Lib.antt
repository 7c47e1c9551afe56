pub mod Descriptors
pub mod Ends
