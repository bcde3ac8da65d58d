-- Laws of the readers that take an index beside each table.
pub mod Answers
