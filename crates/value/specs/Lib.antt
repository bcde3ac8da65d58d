-- The definitions that the contracts of this crate cite beside those of document 01, and laws about both.
pub mod Numbers
pub mod Digits
pub mod Sums
pub mod Places
pub mod Evaluating
pub mod Net
