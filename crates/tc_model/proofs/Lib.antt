pub mod Chained
pub mod Counted
pub mod Rings
mod Numbered
mod Logins
mod Binding
mod Endpoints
mod Apart
mod Alikeness
mod Ahead
pub mod Isolation
pub mod Untouched
pub mod Replayed
pub mod Ordered
pub mod Last
pub mod Every
pub mod Within
pub mod Totals
pub mod Accessed
pub mod Steps
pub mod Overtaking
pub mod FirstPlace
mod WorkedRun
pub mod Conserved
pub mod Maps
