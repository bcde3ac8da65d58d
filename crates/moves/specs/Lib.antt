-- Names longer than sixteen bytes: the definitions of request eight, and their laws.
pub mod NamesLongerThanSixteenBytes
pub mod Computing
pub mod Examples
pub mod Laws
