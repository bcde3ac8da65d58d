-- ISO timings: the definitions of request one, and their laws.
pub mod IsoTimings
pub mod Computing
pub mod Examples
pub mod Laws
