-- What the contracts of the steps need besides the definitions of document 01, and laws of those definitions.
pub mod Joined
pub mod Bytes
pub mod Sets
pub mod Delimiters
pub mod Letters
pub mod Signs
pub mod Sums
pub mod Numbers
pub mod Exponents
pub mod Infinity
pub mod Connections
pub mod Stretches
pub mod Units
pub mod Numerals
