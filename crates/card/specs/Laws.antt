-- Laws of names, of the table and of an accepted card.
pub mod Unnameable
pub mod Names
pub mod Table
pub mod Accepted
