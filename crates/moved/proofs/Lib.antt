-- What is proved of the definitions.
pub mod Checks
pub mod AcceptedTables
pub mod ThereAndBack
pub mod BothForms
pub mod StoredRows
pub mod Rows
pub mod Tables
pub mod StoredTables
pub mod HandedBack
pub mod MovedLines
pub mod StandingTables
