-- Laws of stored lines and of moving them.
pub mod Lines
pub mod Digits
pub mod Moves
