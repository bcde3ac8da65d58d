-- `steps::delimiters::parse_number_delimiter` meets its contract: switched off, no delimiter, or a run. Assumes nothing.
use borrow.Author.Tests.{not-true, not-false}
use Rattle.steps.specs.Delimiters.{gap_on, gap_off, delimiters_none}
use Rattle.std.proofs.Common.{ap, not}
use Rattle.steps.proofs.delimiters.parse_number_delimiter.Goals as goal

pub returns-then-not-on : goal.returns-then-not-on
returns-then-not-on c = rw (not-true c.args.on (ap not c.if-not-on.true), gap_off)

pub returns-then-not-is_delimiter : goal.returns-then-not-is_delimiter
returns-then-not-is_delimiter c =
    rw (not-false c.args.on (ap not c.if-not-on.false), gap_on, ← c.inner_delimiters-inner.ensures)
    (delimiters_none _ _ _ (rw (← c.is_delimiter.ensures) (not-true _ (ap not c.if-not-is_delimiter.true))))

pub try_consume_delimiter-requires : goal.try_consume_delimiter-requires
try_consume_delimiter-requires c = rw (← c.is_delimiter.ensures) (not-false _ (ap not c.if-not-is_delimiter.false))

pub returns : goal.returns
returns c =
    rw (not-false c.args.on (ap not c.if-not-on.false), gap_on, ← c.inner_delimiters-inner.ensures)
    c.try_consume_delimiter.ensures
