-- What is proved of the definitions.
pub mod NothingChanges
pub mod WhatIsHandedBack
pub mod WhenNoUnitFollows
pub mod WhenAProductLeavesItsRange
pub mod WhatIsMultiplied
