-- What the contracts of the ISO reader need besides the definitions of request one, and laws of those definitions.
pub mod Kinds
pub mod Steps
pub mod Due
pub mod Tenths
pub mod Sums
pub mod Answers
