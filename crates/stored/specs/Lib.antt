-- What the contracts of the stored form need besides the definitions of document 01, and laws of those definitions.
pub mod Lines
pub mod Laws
