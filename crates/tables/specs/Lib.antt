-- Laws of a match whose arms read a table.
pub mod Arms
