pub mod Texts
pub mod ScriptLines
pub mod Plans
pub mod Refusing
pub mod Playing
pub mod Printing
pub mod Answering
