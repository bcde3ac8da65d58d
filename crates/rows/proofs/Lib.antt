-- Laws that the proofs of this crate and of those above it share.
pub mod Chains
