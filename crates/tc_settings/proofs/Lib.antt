pub mod UserTables
pub mod LimitTables
