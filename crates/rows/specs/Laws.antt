-- Laws of rows, of the room that a name stands in, and of lookup.
pub mod Rows
pub mod Lookup
pub mod Rooms
