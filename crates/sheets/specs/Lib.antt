-- How far a sheet is answered, what is kept of a line that has not ended, and laws of both.
pub mod Answering
pub mod Keeping
pub mod Pieces
