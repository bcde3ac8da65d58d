-- A sorted index beside the unit table: the definitions of request seven, and their laws.
pub mod TheSortedIndex
pub mod Computing
pub mod Examples
pub mod Laws
