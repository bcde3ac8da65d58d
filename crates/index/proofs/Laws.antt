-- Laws of the sorted index.
pub mod Order
pub mod Counts
pub mod Right
pub mod Searches
