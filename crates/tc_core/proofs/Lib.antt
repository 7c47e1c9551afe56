pub mod Calls
pub mod Sessions
pub mod Table
pub mod Promised
