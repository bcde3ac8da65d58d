-- What the contracts of the settings check need besides the definitions of document 01, and laws of those definitions.
pub mod Conjunctions
pub mod Sets
pub mod Laws
