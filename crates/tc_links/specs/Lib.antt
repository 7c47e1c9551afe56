pub mod Wires
pub mod Talks
pub mod Lives
pub mod Turns
pub mod Homes
