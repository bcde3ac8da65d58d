-- Demand 3, and the laws that it needs.
pub mod Spelled
pub mod OnePart
pub mod ExactSum
pub mod Demand3
