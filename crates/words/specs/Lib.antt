-- Laws of numbers that are read from bytes.
pub mod LowFirst
pub mod Bytewise
