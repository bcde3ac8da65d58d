-- What C passes and gets back, and laws of it.
pub mod Words
pub mod Laws
