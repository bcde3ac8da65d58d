-- Laws of the definitions, for the layers above to cite.
pub mod Choices
pub mod Tests
pub mod Lists
pub mod Outcomes
pub mod RowsCheck
pub mod SettingsAsWords
pub mod Answers
pub mod Tables
pub mod Texts
pub mod Layout
pub mod Ahead
pub mod FromAPlace
pub mod Lengths
pub mod Apart
pub mod Totals
pub mod Written
pub mod Refusals
