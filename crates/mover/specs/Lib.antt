-- Stored lines moved: what a check of all lines comes to, and laws of moved lines in the form in which the code has them.
pub mod Checked
pub mod Parts
pub mod Walks
