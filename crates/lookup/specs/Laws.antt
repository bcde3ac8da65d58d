-- Laws of the searches, as the code makes them.
pub mod Names
pub mod Numbers
pub mod Walks
pub mod BothTables
