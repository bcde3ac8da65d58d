-- `reading::typed::spoken_count` meets its contract: a numeral counts 1, and is held by its row. Assumes nothing.
use Rattle.std.proofs.Common.{rules}
use Rattle.rules.specs.NumbersHandedBack.{◌>>=◌}
use Rattle.reading.specs.Meant.{meant}
use Rattle.reading.specs.Entries.{card_sayable}
use Rattle.reading.specs.Coded.{spoken_count}
use Rattle.reading.proofs.typed.spoken_count.Goals as goal

pub parse_numeral-requires-clause-sayable : goal.parse_numeral-requires-clause-sayable
parse_numeral-requires-clause-sayable c = c.args.card.now.sayable

pub returns-in_err-found : goal.returns-in_err-found
unfolding spoken_count ◌>>=◌
returns-in_err-found c = search rules

pub returns : goal.returns
unfolding spoken_count ◌>>=◌
returns c = search rules
