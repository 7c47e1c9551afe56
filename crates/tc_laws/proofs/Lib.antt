mod Merging
mod Running
mod Opening
mod Alone
mod Telling
pub mod Stories
