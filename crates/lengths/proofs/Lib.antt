-- Laws that the proofs of this crate cite.
pub mod Walking
pub mod Carrying
pub mod Halves
pub mod Fitting
pub mod Cuts
