-- What is proved of the definitions.
pub mod Lines
pub mod Printed
