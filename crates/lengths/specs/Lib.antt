-- The definitions that the contracts of this crate cite beside those of document 01.
pub mod Columns
pub mod Wide
