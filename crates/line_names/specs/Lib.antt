-- Request five: the line's own unit names.
pub mod TheReadingBefore
pub mod TheMergedTable
pub mod OneBehindAnother
pub mod ReadAlike
pub mod Examples
