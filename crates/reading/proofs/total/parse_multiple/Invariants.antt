-- `reading::total::parse_multiple` meets its contract: the parts from here on, summed up after the sum so far, come to the text's total.
-- What is left of the text falls with each part. Assumes nothing.
use Rattle.std.proofs.Common.{◌≡◌, true, ◌-◌, length}
use Rattle.rules.specs.ThePartOfTheCrateWeTake.{well_formed}
use Rattle.rules.specs.Evaluation.{total}
use Rattle.rules.proofs.Laws.Totals.{total_from}
use Rattle.reading.specs.Meant.{meant}
use Rattle.reading.proofs.total.parse_multiple.Given as goal

abbrev pub invariant-loop-reading : goal.invariant-loop-reading
invariant-loop-reading l = (total_from (meant l.card) l.text l.sum l.place ≡ total (meant l.card) l.text) × (well_formed l.sum ≡ true)

abbrev pub decreases-loop-reading : goal.decreases-loop-reading
decreases-loop-reading l = length l.text - l.place
