-- What the searches ask of a table and the index beside it, and the laws that their code goes by.
pub mod Searching
pub mod Holding
pub mod Laws
