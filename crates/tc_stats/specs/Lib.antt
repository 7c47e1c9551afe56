pub mod UserCounters
pub mod StatsRows
pub mod Sameness
