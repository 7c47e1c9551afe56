pub mod LoginData
pub mod FirstFault
pub mod ChangedRows
