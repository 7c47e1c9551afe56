pub mod Scanning
pub mod Spelling
