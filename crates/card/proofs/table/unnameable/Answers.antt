-- `card::table::unnameable` meets its contract: both sets, and the bytes of a number, as one. Assumes nothing.
use Rattle.settings.specs.Sets.{bytes_of}
use Rattle.card.specs.Fields.{number_set, unnameable}
use Rattle.card.proofs.table.unnameable.Goals as goal

pub returns : goal.returns
unfolding unnameable number_set bytes_of
returns c =
    rw (
      c.either-2.ensures,
      c.either.ensures,
      c.outer_delimiters.ensures,
      c.inner_delimiters.ensures,
    )
