pub mod Numbers
pub mod Retelling
