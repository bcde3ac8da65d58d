-- Facts that contracts and laws of the definitions speak of; the laws stand in proofs/.
pub mod Lists
pub mod Powers
