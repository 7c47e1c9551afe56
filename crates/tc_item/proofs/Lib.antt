mod Places
pub mod Runs
