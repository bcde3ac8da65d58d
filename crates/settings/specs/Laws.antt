-- Laws of byte sets and of the settings.
pub mod Sets
pub mod Settings
pub mod Accepted
