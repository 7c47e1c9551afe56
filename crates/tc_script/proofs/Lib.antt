pub mod Unescaping
pub mod Cuts
pub mod Walks
pub mod TakenLines
pub mod RunEnds
