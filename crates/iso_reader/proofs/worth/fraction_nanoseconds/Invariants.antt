-- `iso_reader::worth::fraction_nanoseconds` meets its contract: the digits that are left and those that are done are all of them, and what
-- those done are worth is known. Assumes nothing.
use Rattle.iso_reader.specs.Tenths.{Behind}
use Rattle.iso_reader.proofs.worth.fraction_nanoseconds.Given as goal

abbrev pub invariant-loop-digit : goal.invariant-loop-digit
invariant-loop-digit l = Behind l.decimals l.unit l.digit-iterator.iter.rest.now l.behind
