-- What is proved of the definitions.
pub mod NothingChanges
pub mod EachRow
pub mod FoundAlike
pub mod AcceptedAlike
pub mod ReadAlike
