-- Request seven's promises, over the definitions.
pub mod MadeAndChecked
pub mod ReadAlike
pub mod NamesCompared
