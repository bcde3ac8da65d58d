-- A table behind one of whole rows: its rows, its names, and what is found. Assumes nothing.
use Rattle.std.specs.Prelude.{◌≡◌, Bool, true, false, List, [], ◌++◌, leb, drop, Option, Some, None}
use Rattle.std.proofs.Math.Path.{refl, sym}
use Rattle.std.proofs.Common.{◌∙◌, zero-add, add-suc, suc-add, leb-true, leb-false}
use Prim.Native.Nat.{ℕ, zero, suc, ◌+◌, ◌*◌, ◌-◌, ◌%◌, ◌≤◌, ◌<◌}
use Rattle.std.proofs.Math.Nat.{add-zero}
use native.Mathlib.Omega.{arith}
use Rattle.std.proofs.Math.ListN.{length, length-append, length-drop}
use Rattle.std.proofs.Math.Seq.{take_all, drop-append-add}
use Rattle.std.proofs.lemmas.List.{take-append-le, drop-append-le}
use Rattle.rules.specs.Common.{when◌then◌else◌, same}
use Rattle.rules.specs.SettingsAndUnitTable.{row_size, rows, rows_in, row, row_in, name, named, named_in, lookup_from, lookup_from_in, lookup, lookup_in, line_first, stands, held_row, find_row}
use Rattle.rows.specs.Named.{found_row, row_named}
use Rattle.rows.specs.Laws.Rows.{row_within}

-- whole rows alone
abbrev pub Whole : List ℕ → Type 0
Whole table = length table % row_size ≡ 0

module _ (a b : List ℕ) where
  -- the rows of the first stand where they stood
  pub row_before : (i : ℕ) → i < rows a → row (a ++ b) i ≡ row a i
  unfolding row_in
  row_before i below =
      let within = row_within a i below in
      rw (drop-append-le (row_size * i) a b (omega arith)) (take-append-le row_size (drop (row_size * i) a) b (simp length-drop (omega arith)))

  module _ (whole : Whole a) where
    -- so many bytes
    sized : length a ≡ row_size * rows a
    unfolding rows_in
    sized = omega arith

    pub whole_both : Whole b → Whole (a ++ b)
    whole_both whole_b = simp length-append (omega arith)

    pub rows_both : rows (a ++ b) ≡ rows a + rows b
    unfolding rows_in
    rows_both = simp length-append (omega arith)

    pub row_behind : (j : ℕ) → row (a ++ b) (rows a + j) ≡ row b j
    unfolding row_in
    row_behind j =
        let start : row_size * (rows a + j) ≡ length a + row_size * j = omega (arith, sized) in
        rw (start, drop-append-add a b)

    -- a row of the two is one of the first's or one of the second's
    pub row_of_either : (P : ℕ → Type 0) → ((i : ℕ) → i < rows a → P i) → ((j : ℕ) → j < rows b → P (rows a + j)) → (i : ℕ) → i < rows (a ++ b) → P i
    row_of_either P first second i below = go (leb (rows a) i) refl
      where
        go : (t : Bool) → leb (rows a) i ≡ t → P i
        go false before = first i (leb-false (rows a) i before)
        go true behind =
            let there : rows a + (i - rows a) ≡ i = omega (arith, leb-true (rows a) i behind) in
            rw there at (second (i - rows a) (omega (arith, rows_both)))

-- ---- names

module _ (a b wanted : List ℕ) where
  pub named_before : (n : ℕ) → n ≤ rows a → named (a ++ b) wanted n ≡ named a wanted n
  unfolding named_in
  named_before zero within = refl
  named_before (suc n) within = rw (row_before a b n (omega arith), named_before n (omega arith))

  -- behind a table that has not the name
  pub named_behind : Whole a → named a wanted (rows a) ≡ false → (j : ℕ) → named (a ++ b) wanted (rows a + j) ≡ named b wanted j
  unfolding named_in
  named_behind whole none zero = rw add-zero (named_before (rows a) (omega arith) ∙ none)
  named_behind whole none (suc j) = rw (add-suc (rows a) j, row_behind a b whole j, named_behind whole none j)

-- ---- what is found

-- two choices by one test come to the same if both cases do
pub if_alike :
    {A B C : Type 0} (f : A → C) (g : B → C) (test : Bool) {x y : A} {z w : B}
    → f x ≡ g z → f y ≡ g w → f (when test then x else y) ≡ g (when test then z else w)
unfolding when◌then◌else◌
if_alike f g true then_alike else_alike = then_alike
if_alike f g false then_alike else_alike = else_alike

-- where the first of two tables has no row of the name, the second one's is found
pub none_before : (a b : List ℕ) (in_b : Option ℕ) → held_row b a (line_first None in_b) ≡ found_row b in_b
unfolding held_row line_first found_row
none_before a b (Some i) = refl
none_before a b None = refl

-- so without a table of the line's, the hall's
pub found_alone : (table wanted : List ℕ) → find_row table [] wanted ≡ row_named table wanted
unfolding find_row stands lookup_in lookup_from_in rows_in row_named
found_alone table wanted = none_before [] table (lookup table wanted)

module _ (a b : List ℕ) (whole : Whole a) (wanted : List ℕ) where
  in_the_second : (n j : ℕ) → found_row (a ++ b) (lookup_from (a ++ b) wanted (rows a + j) n) ≡ found_row b (lookup_from b wanted j n)
  unfolding lookup_from_in found_row
  in_the_second zero j = refl
  in_the_second (suc n) j =
      let here = row_behind a b whole j in
      rw (here, ← (add-suc (rows a) j)) (if_alike (found_row (a ++ b)) (found_row b) (same (name (row b j)) wanted) here (in_the_second n (suc j)))

  in_either :
      (n i : ℕ) → i + n ≡ rows a
      → found_row (a ++ b) (lookup_from (a ++ b) wanted i (n + rows b)) ≡ held_row b a (line_first (lookup_from a wanted i n) (lookup b wanted))
  unfolding lookup_from_in lookup_in held_row line_first found_row
  in_either zero i e =
      let end : i ≡ rows a + 0 = omega arith in
      rw (zero-add, end) (in_the_second (rows b) 0 ∙ sym (none_before a b (lookup b wanted)))
  in_either (suc n) i e =
      let here = row_before a b i (omega arith) in
      rw (suc-add n (rows b), here)
      (if_alike (found_row (a ++ b)) (λ in_a. held_row b a (line_first in_a (lookup b wanted))) (same (name (row a i)) wanted) here (in_either n (suc i) (omega arith)))

  -- one table behind another finds what the two find
  pub found_behind : row_named (a ++ b) wanted ≡ find_row b a wanted
  unfolding row_named lookup_in find_row stands
  found_behind = rw (rows_both a b whole) (in_either (rows a) 0 (omega arith))

-- ---- one row before a table

module _ (r : List ℕ) (sized : length r ≡ row_size) where
  pub row_whole : Whole r
  row_whole = rw sized

  pub one_row : rows r ≡ 1
  unfolding rows_in
  one_row = rw sized

  pub the_row : row r 0 ≡ r
  unfolding row_in
  the_row = take_all row_size r (omega arith)

  pub row_first : (table : List ℕ) (j : ℕ) → j < rows r → row (r ++ table) j ≡ r
  row_first table j below =
      let first : j ≡ 0 = omega (arith, one_row) in
      rw first (row_before r table 0 (rw one_row (omega arith)) ∙ the_row)

  pub row_found_first : (table wanted : List ℕ) → row_named (r ++ table) wanted ≡ (when same (name r) wanted then r else row_named table wanted)
  unfolding row_named lookup_in lookup_from_in find_row stands held_row line_first
  row_found_first table wanted =
      found_behind r table row_whole wanted
      ∙ rw (one_row, the_row)
      (if_alike (λ in_r. held_row table r (line_first in_r (lookup table wanted))) (λ found. found) (same (name r) wanted) the_row (none_before r table (lookup table wanted)))
