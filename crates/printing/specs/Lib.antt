-- What the lines of a sheet are and what is printed for them, and laws of both.
pub mod Lines
pub mod Printed
pub mod Fields
pub mod Examples
