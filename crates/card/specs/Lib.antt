-- What the contracts of the card need besides the definitions of document 01, and laws of those definitions.
pub mod Fields
pub mod Laws
