pub mod Tags
pub mod Shards
