-- What is proved of the definitions.
pub mod WhatAStepRefuses
pub mod WhereItIsDue
pub mod ExactlyThese
pub mod WhatIsHandedBack
pub mod TheAnswerBefore
