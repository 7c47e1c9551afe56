pub mod Fresh
pub mod Sought
pub mod Again
