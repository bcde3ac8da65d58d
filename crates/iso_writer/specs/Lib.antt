-- What the contracts of the writer of ISO timings need besides the definitions of request one, and laws of those definitions.
pub mod Components
pub mod Forms
