-- `iso_reader::components::number` meets its contract: no digit, digits, digits and a mark alone, and both. Assumes nothing.
use Rattle.std.proofs.Common.{◌≡◌, ◌≤◌, ◌<◌, ◌+◌, ◌∙◌, true, false, refl, sym, ap, not, length, arith}
use Rattle.std.proofs.lemmas.Bool.{not-true, not-false}
use Rattle.rules.specs.Common.{all, sees, run}
use Rattle.rules.specs.SettingsAndUnitTable.{DIGIT, is}
use Rattle.rules.specs.NumbersHandedBack.{◌>>=◌}
use Rattle.rules.proofs.Laws.Texts.{run_from, sees_in}
use Rattle.iso.specs.IsoTimings.{is_mark}
use Rattle.iso_reader.specs.Steps.{number_then, slice_is, number_none, number_whole, whole_passes, point_within, mark_none, number_both, end_within, fraction_passes}
use Rattle.iso_reader.proofs.components.number.Goals as goal
use Rattle.iso_reader.proofs.components.number.Goals.{After-parse_digits-end, After-parse_digits-point, Else-not-mark_stands, Else-point-place, Then-not-mark_stands, Else-end-point}

-- the place after the first digits
point : (c : After-parse_digits-point) → c.parse_digits-point.result.end ≡ run (is DIGIT) c.args.text.now c.args.place
point c = ap (λ f. f.end) c.parse_digits-point.ensures

pub returns-then-point-place-clause-by_index : goal.returns-then-point-place-clause-by_index
unfolding ◌>>=◌
returns-then-point-place-clause-by_index c k = number_none _ _ (sym (point (goal.at.returns-then-point-place-clause-by_index c).After-parse_digits-point) ∙ c.if-point-place.true) k

some : (c : Else-point-place) → c.args.place < c.parse_digits-point.result.end
some c = omega (arith, c.if-point-place.false, ap (λ f. f.end) c.parse_digits-point.ensures, run_from (is DIGIT) c.args.text.now c.args.place)

unmarked : (c : Then-not-mark_stands) → sees is_mark c.args.text.now c.parse_digits-point.result.end ≡ false
unmarked c = sym c.mark_stands.ensures ∙ not-true _ (ap not c.if-not-mark_stands.true)

marked : (c : Else-not-mark_stands) → sees is_mark c.args.text.now c.parse_digits-point.result.end ≡ true
marked c = sym c.mark_stands.ensures ∙ not-false _ (ap not c.if-not-mark_stands.false)

-- the place after the digits behind a mark
end : (c : After-parse_digits-end) → c.parse_digits-end.result.end ≡ run (is DIGIT) c.args.text.now (c.parse_digits-point.result.end + 1)
end c = ap (λ f. f.end) c.parse_digits-end.ensures

pub slice_bounds-typed-count : goal.slice_bounds-typed-count
slice_bounds-typed-count c = let h = some (goal.at.slice_bounds-typed-count c).Else-point-place in omega arith

pub slice_bounds-typed-start : goal.slice_bounds-typed-start
slice_bounds-typed-start c = let h = some (goal.at.slice_bounds-typed-start c).Else-point-place in omega arith

pub slice_bounds-typed-end : goal.slice_bounds-typed-end
slice_bounds-typed-end c = point_within c.args.text.now c.args.place (point (goal.at.slice_bounds-typed-end c).After-parse_digits-point) (some (goal.at.slice_bounds-typed-end c).Else-point-place)

pub overflow_add-point : goal.overflow_add-point
overflow_add-point c = let inside = sees_in is_mark _ _ (marked c) in omega arith

pub returns-then-end-point-clause-by_index : goal.returns-then-end-point-clause-by_index
unfolding ◌>>=◌
returns-then-end-point-clause-by_index c k =
    let at = goal.at.returns-then-end-point-clause-by_index c in
    rw c.if-end-point.true (mark_none _ _ (point at.After-parse_digits-point) (some at.Else-point-place) (marked at.Else-not-mark_stands) (sym (end at.After-parse_digits-end) ∙ c.if-end-point.true) k)

pub invariant_of-typed : goal.invariant_of-typed
unfolding all
invariant_of-typed c =
    let at = goal.at.invariant_of-typed c in
    record { digits = rw (slice_is c.args.text.now c.args.place c.parse_digits-point.result.end (omega (arith, some at.Else-point-place))) (whole_passes _ _ (point at.After-parse_digits-point) (some at.Else-point-place)); decimals = refl }

pub returns-then-not-mark_stands-clause-by_index : goal.returns-then-not-mark_stands-clause-by_index
unfolding ◌>>=◌ number_then
returns-then-not-mark_stands-clause-by_index c k =
    let at = goal.at.returns-then-not-mark_stands-clause-by_index c in
    rw (slice_is c.args.text.now c.args.place c.parse_digits-point.result.end (omega (arith, some at.Else-point-place)))
    (number_whole _ _ (point at.After-parse_digits-point) (some at.Else-point-place) (unmarked at.Then-not-mark_stands) k)

more : (c : Else-end-point) → c.parse_digits-point.result.end + 1 < c.parse_digits-end.result.end
more c = omega (arith, c.if-end-point.false, ap (λ f. f.end) c.parse_digits-end.ensures, run_from (is DIGIT) c.args.text.now (c.parse_digits-point.result.end + 1))

within : (c : Else-end-point) → c.parse_digits-end.result.end ≤ length c.args.text.now
within c =
    let at = goal.at.slice_bounds-typed-count-2 c in
    end_within _ _ (point at.After-parse_digits-point) (some at.Else-point-place) (marked at.Else-not-mark_stands) (end at.After-parse_digits-end) (more c)

pub slice_bounds-typed-count-2 : goal.slice_bounds-typed-count-2
slice_bounds-typed-count-2 c = let h = some (goal.at.slice_bounds-typed-count-2 c).Else-point-place in omega arith

pub slice_bounds-typed-start-2 : goal.slice_bounds-typed-start-2
slice_bounds-typed-start-2 c = let h = some (goal.at.slice_bounds-typed-start-2 c).Else-point-place in omega arith

pub slice_bounds-typed-end-2 : goal.slice_bounds-typed-end-2
slice_bounds-typed-end-2 c = point_within c.args.text.now c.args.place (point (goal.at.slice_bounds-typed-end-2 c).After-parse_digits-point) (some (goal.at.slice_bounds-typed-end-2 c).Else-point-place)

pub slice_bounds-typed-count-3 : goal.slice_bounds-typed-count-3
slice_bounds-typed-count-3 c = let h = more (goal.at.slice_bounds-typed-count-3 c).Else-end-point in omega arith

pub slice_bounds-typed-start-3 : goal.slice_bounds-typed-start-3
slice_bounds-typed-start-3 c = let h = more (goal.at.slice_bounds-typed-start-3 c).Else-end-point in omega arith

pub slice_bounds-typed-end-3 : goal.slice_bounds-typed-end-3
slice_bounds-typed-end-3 c = within (goal.at.slice_bounds-typed-end-3 c).Else-end-point

pub invariant_of-typed-2 : goal.invariant_of-typed-2
invariant_of-typed-2 c =
    let at = goal.at.invariant_of-typed-2 c in
    let first = some at.Else-point-place in
    record {
      digits = rw (slice_is c.args.text.now c.args.place c.parse_digits-point.result.end (omega (arith, first))) (whole_passes _ _ (point at.After-parse_digits-point) first);
      decimals = rw (slice_is c.args.text.now c.parse_digits-point.result.end c.parse_digits-end.result.end (omega (arith, more at.Else-end-point)))
          (fraction_passes _ _ (point at.After-parse_digits-point) first (marked at.Else-not-mark_stands) (end at.After-parse_digits-end) (more at.Else-end-point));
    }

pub returns-clause-by_index : goal.returns-clause-by_index
unfolding ◌>>=◌ number_then
returns-clause-by_index c k =
    let at = goal.at.returns-clause-by_index c in
    let first = some at.Else-point-place in
    rw (slice_is c.args.text.now c.args.place c.parse_digits-point.result.end (omega (arith, first)), slice_is c.args.text.now c.parse_digits-point.result.end c.parse_digits-end.result.end (omega (arith, more at.Else-end-point)))
    (number_both _ _ (point at.After-parse_digits-point) first (marked at.Else-not-mark_stands) (end at.After-parse_digits-end) (more at.Else-end-point) k)

pub returns-then-not-mark_stands-clause-within : goal.returns-then-not-mark_stands-clause-within
returns-then-not-mark_stands-clause-within c =
    let at = goal.at.returns-then-not-mark_stands-clause-within c in point_within c.args.text.now c.args.place (point at.After-parse_digits-point) (some at.Else-point-place)

pub returns-clause-within : goal.returns-clause-within
returns-clause-within c = within (goal.at.returns-clause-within c).Else-end-point
