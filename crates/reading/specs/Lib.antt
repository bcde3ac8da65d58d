-- What the contracts of reading need besides the definitions of document 01, and laws of those definitions.
pub mod Meant
pub mod Typed
pub mod Coded
pub mod Spans
pub mod Evaluated
pub mod Allowed
pub mod Totals
pub mod Entries
pub mod Shifts
