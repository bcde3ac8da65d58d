-- What the contracts of the writer need besides the definitions of document 01, and laws of those definitions.
pub mod Laid
pub mod Digits
pub mod Forms
