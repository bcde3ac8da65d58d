-- Request four: spoken numbers.
pub mod TheReadingBefore
pub mod WhenNoUnitFollows
pub mod WhenAProductLeavesItsRange
pub mod WhatIsMultiplied
pub mod Examples
