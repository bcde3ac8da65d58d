-- What is proved of the definitions.
pub mod OfEveryUnit
pub mod HiddenByTheLine
pub mod NobodyCouldType
pub mod ATextForEachRow
pub mod OneOfTheTwoTables
pub mod TheReadersOwn
pub mod Examples
pub mod ExactlyIf
