-- What is proved of the definitions.
pub mod StepFour
pub mod ExactlyThere
pub mod WhatIsHandedBack
pub mod TheAnswerBefore
