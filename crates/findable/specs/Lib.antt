-- Request two: which rows of the two unit tables a text can find.
pub mod WhereAPartFindsItsUnit
pub mod TheTextForARow
pub mod OneOfTheTwoTables
pub mod Examples
pub mod TheReadersOwn
pub mod ExactlyIf
