-- Facts that contracts and laws of the definitions speak of; the laws stand in proofs/.
pub mod Digits
pub mod Moves
