-- `reading::typed::typed_count` meets its contract: the steps follow each other, and the first refusal stands. Assumes nothing.
use Rattle.std.proofs.Common.{rules}
use Rattle.rules.specs.NumbersHandedBack.{◌>>=◌}
use Rattle.reading.specs.Coded.{typed_count}
use Rattle.reading.proofs.typed.typed_count.Goals as goal

pub returns-in_err-summed : goal.returns-in_err-summed
unfolding typed_count ◌>>=◌
returns-in_err-summed c = search rules

pub returns-in_err-scaled : goal.returns-in_err-scaled
unfolding typed_count ◌>>=◌
returns-in_err-scaled c = search rules

pub returns-in_err-name : goal.returns-in_err-name
unfolding typed_count ◌>>=◌
returns-in_err-name c = search rules

pub returns : goal.returns
unfolding typed_count ◌>>=◌
returns c = search rules
