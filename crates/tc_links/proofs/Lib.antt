pub mod Latest
pub mod Talking
pub mod SingleMoves
pub mod Living
