-- What the contracts of rows need besides the definitions of document 01, and laws of those definitions.
pub mod Powers
pub mod Named
pub mod Laws
