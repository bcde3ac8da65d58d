-- What moving stored lines and tables from one form of a row to another keeps.
pub mod Standing
pub mod Rows
pub mod Lines
pub mod MovedLines
pub mod Accepted
pub mod Pieces
pub mod Tables
pub mod StandingTables
pub mod StoredTables
pub mod HandedBack
