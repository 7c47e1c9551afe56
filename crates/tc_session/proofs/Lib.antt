mod Logins
pub mod Served
mod Waiting
pub mod Declining
mod Texts
mod Owing
mod Resting
