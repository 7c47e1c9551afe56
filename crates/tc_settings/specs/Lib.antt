pub mod Bounds
pub mod Fields
pub mod LimitFields
pub mod SettingsTable
