pub mod Stream
pub mod CutStream
pub mod Scanned
pub mod Looking
pub mod Passing
pub mod Refusing
