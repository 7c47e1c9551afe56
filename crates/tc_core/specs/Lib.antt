pub mod ServerMachine
pub mod Steps
pub mod Refused
pub mod Sending
