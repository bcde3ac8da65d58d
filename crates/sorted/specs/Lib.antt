-- What the functions over an index are promised by, and their laws.
pub mod Found
pub mod Rooms
pub mod Climbing
pub mod Checks
pub mod Sifting
pub mod Making
pub mod Replacing
pub mod PuttingRows
pub mod Allowed
pub mod Indexed
