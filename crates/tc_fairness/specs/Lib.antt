pub mod Dealing
pub mod HalfBlocks
pub mod Guesses
