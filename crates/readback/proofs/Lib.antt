-- What is proved of the definitions.
pub mod ExactSum
pub mod Demand3
