-- Laws of the entries over unit tables and their indexes.
pub mod Changes
pub mod Lookups
