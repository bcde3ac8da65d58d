-- What the two tables find is what the merged one finds: for every name the same row, or none. Assumes nothing.
use Rattle.std.specs.Prelude.{◌≡◌, true, false, List, [], Option, Some, None}
use Rattle.std.proofs.Math.Path.{refl, ap}
use Rattle.std.proofs.Common.{sym, ◌∙◌, arith}
use Rattle.std.proofs.lemmas.Bool.{false≢true}
use Prim.Native.Nat.{ℕ, zero, suc, ◌+◌, ◌≤◌, ◌<◌}
use Rattle.rules.specs.Common.{same}
use Rattle.rules.specs.SettingsAndUnitTable.{rows, rows_in, row, name, named, named_in, lookup_from, lookup_from_in, lookup, lookup_in, line_first, stands, held_row, find_row}
use Rattle.rules.proofs.Laws.Choices.{if_either, if_else}
use Rattle.rows.specs.Named.{found_row, row_named}
use Rattle.rows.specs.Laws.Lookup.{not_same, lookup_nowhere}
use Rattle.rows.specs.Laws.Rows.{length_row}
use Rattle.line_names.specs.TheMergedTable.{others, merged}
use Rattle.line_names.specs.OneBehindAnother.{Whole, if_alike, none_before, found_alone, found_behind, row_found_first}

-- a name that none of the first n rows has
not_named : (table wanted : List ℕ) (n : ℕ) → ((i : ℕ) → i < n → name (row table i) ≡ wanted → ⊥) → named table wanted n ≡ false
unfolding named_in
not_named table wanted zero none = refl
not_named table wanted (suc n) none =
    rw (not_same (name (row table n)) wanted (none n (omega arith)))
    (not_named table wanted n (λ i below. none i (omega arith)))

module _ (hall line wanted : List ℕ) (none : lookup line wanted ≡ None) where
  -- a row whose name the line has does not have the name that the line has not
  other_name : (r : List ℕ) → named line (name r) (rows line) ≡ true → same (name r) wanted ≡ false
  other_name r has =
      not_same (name r) wanted
      (λ e. false≢true (sym (not_named line wanted (rows line) (lookup_nowhere line wanted none)) ∙ rw e at has))

  found_in_others : (n i : ℕ) → i + n ≤ rows hall → row_named (others hall line i n) wanted ≡ found_row hall (lookup_from hall wanted i n)
  unfolding others lookup_from_in row_named lookup_in rows_in found_row
  found_in_others zero i within = refl
  found_in_others (suc n) i within =
      let r = row hall i in
      let more = others hall line (suc i) n in
      let behind : row_named more wanted ≡ found_row hall (lookup_from hall wanted (suc i) n) = found_in_others n (suc i) (omega arith) in
      if_either (λ table. row_named table wanted ≡ found_row hall (lookup_from hall wanted i (suc n))) (named line (name r) (rows line))
      (λ has. behind ∙ ap (found_row hall) (sym (if_else (Some i) _ (other_name r has))))
      (λ _. row_found_first r (length_row hall i (omega arith)) more wanted ∙ if_alike (λ found. found) (found_row hall) (same (name r) wanted) refl behind)

  in_the_others : row_named (others hall line 0 (rows hall)) wanted ≡ row_named hall wanted
  unfolding row_named lookup_in
  in_the_others = found_in_others (rows hall) 0 (omega arith)

-- a table that finds what the hall's does wherever the line has no such name may stand for the hall's
stands_for :
    (table hall line wanted : List ℕ)
    → (lookup line wanted ≡ None → row_named table wanted ≡ row_named hall wanted)
    → find_row table line wanted ≡ find_row hall line wanted
unfolding find_row stands held_row line_first row_named
stands_for table hall line wanted alike = go (lookup line wanted) refl
  where
    go :
        (in_line : Option ℕ) → lookup line wanted ≡ in_line
        → held_row table line (line_first in_line (lookup table wanted)) ≡ held_row hall line (line_first in_line (lookup hall wanted))
    go (Some i) at = refl
    go None none = none_before line table (lookup table wanted) ∙ alike none ∙ sym (none_before line hall (lookup hall wanted))

-- for every name the merged table finds the row that the two find, or none where they find none
pub merged_finds : (hall line : List ℕ) → Whole line → (wanted : List ℕ) → find_row (merged hall line) [] wanted ≡ find_row hall line wanted
unfolding merged
merged_finds hall line whole wanted =
    found_alone (merged hall line) wanted
    ∙ found_behind line (others hall line 0 (rows hall)) whole wanted
    ∙ stands_for _ hall line wanted (λ none. in_the_others hall line wanted none)
