-- What the contracts of this crate cite beside the definitions, and laws of both.
pub mod Products
pub mod Laws
