pub mod BehindMarks
pub mod Held
pub mod Listed
pub mod Marked
pub mod Passed
pub mod Turned
pub mod Walked
