-- What an entry hands back for the text that it reads: the words in which requests say it, and their laws.
pub mod TheStepsOfAPart
pub mod TheLettersOfAWord
pub mod AStepRefuses
pub mod RefusedWith
pub mod WhatIsRead
pub mod BehindTheChecks
pub mod ByAnotherTable
