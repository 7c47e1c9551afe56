pub mod MetricsText
pub mod Replies
