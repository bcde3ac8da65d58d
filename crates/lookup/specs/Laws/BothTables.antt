-- What is found in both tables, by what is found in each. Assumes nothing.
use Rattle.std.specs.Prelude.{◌≡◌, ℕ, ◌+◌, ◌*◌, ◌≤◌, ◌<◌, length, Option, Some, None}
use Rattle.std.proofs.Math.Path.{refl, sym, ap, ap₂}
use Rattle.std.proofs.Common.{◌∙◌, inl, inr, add-zero, arith, subst}
use mathlib.Core.List.{List, [], ◌∷◌}
use Rattle.rules.specs.NumbersHandedBack.{got}
use Rattle.rules.specs.SettingsAndUnitTable.{row_size, rows, rows_in, row, lookup, Holder, Line, Hall, Neither, line_first, stands, held_row, find_row}
use Rattle.rows.specs.Laws.Lookup.{lookup_found}
use Rattle.index.specs.declared.Searched.{Searched}
use Rattle.index.specs.TheSortedIndex.{row_search, index_search, behind, compared_in_both, found_in, looked_up}
use Rattle.index.proofs.Laws.Searches.{row_search_finds, row_search_most, index_search_finds, index_search_most}
use Rattle.lookup.specs.Searching.{Beside, Searchable, searched}
use Rattle.lookup.specs.declared.both_tables.Held.{Held}
use Rattle.lookup.specs.declared.both_tables.Held.TheVariants.{InHall}
use Rattle.lookup.specs.Holding.{holder}
use Rattle.std.specs.Option.{MatchOption, IsSomeAnd}

-- which search is made
pub searched_rows : (table index wanted : List ℕ) → length index ≡ 0 → row_search table wanted ≡ searched table index wanted
unfolding searched
searched_rows table [] wanted none = refl
searched_rows table (k ∷ index) wanted none = absurd (omega arith)

pub searched_index : (table index wanted : List ℕ) → (length index ≡ 0 → ⊥) → index_search table index wanted ≡ searched table index wanted
unfolding searched
searched_index table [] wanted some = absurd (some refl)
searched_index table (k ∷ index) wanted some = refl

-- either finds what the lookup finds
pub searched_finds : (table index wanted : List ℕ) → Beside table index → (searched table index wanted).found ≡ lookup table wanted
searched_finds table index wanted (inl none) = ap (λ (s : Searched). s.found) (sym (searched_rows table index wanted none)) ∙ row_search_finds table wanted
searched_finds table [] wanted (inr right) = ap (λ (s : Searched). s.found) (sym (searched_rows table [] wanted refl)) ∙ row_search_finds table wanted
searched_finds table (k ∷ index) wanted (inr right) =
    ap (λ (s : Searched). s.found) (sym (searched_index table (k ∷ index) wanted (λ e. omega arith))) ∙ index_search_finds table (k ∷ index) wanted right

-- at most one name for each row, by either
pub searched_most : (table index wanted : List ℕ) → (searched table index wanted).compared ≤ rows table
unfolding searched
searched_most table [] wanted = row_search_most table wanted
searched_most table (k ∷ index) wanted = index_search_most table (k ∷ index) wanted

-- a number of rows is small beside the bytes that they have
pub rows_few : (table : List ℕ) {n : ℕ} → n ≤ rows table → row_size * n ≤ length table
unfolding rows_in
rows_few table h = omega arith

-- so that the counts of two searches can be added
pub searched_few : (table index wanted : List ℕ) {s : Searched} → s ≡ searched table index wanted → row_size * s.compared ≤ length table
searched_few table index wanted e = omega (arith, rows_few table (searched_most table index wanted), ap (λ (s : Searched). s.compared) e)

-- the count, where the line's table has the name and where it has not
module _ (in_line in_hall : Searched) where
  pub compared_line : {i : ℕ} → in_line.found ≡ Some i → in_line.compared ≡ compared_in_both in_line in_hall
  unfolding compared_in_both behind
  compared_line e = rw (e, add-zero)

  pub compared_both : in_line.found ≡ None → in_line.compared + in_hall.compared ≡ compared_in_both in_line in_hall
  unfolding compared_in_both behind
  compared_both e = rw e

-- what is found in each is what stands in the tables
module _ (hall hall_index line line_index wanted : List ℕ) (both : Searchable hall hall_index × Searchable line line_index) where
  pub stands_in_line : {i : ℕ} → (searched line line_index wanted).found ≡ Some i → Line i ≡ stands hall line wanted
  unfolding stands line_first
  stands_in_line e = ap (λ f. line_first f (lookup hall wanted)) (sym e ∙ searched_finds line line_index wanted both.1.beside)

  pub stands_behind :
      (searched line line_index wanted).found ≡ None → line_first None (searched hall hall_index wanted).found ≡ stands hall line wanted
  unfolding stands
  stands_behind e = ap₂ line_first (sym e ∙ searched_finds line line_index wanted both.1.beside) (searched_finds hall hall_index wanted both.0.beside)

-- a row that is found is the hall's
pub held_in_hall :
    (found : Option ℕ) (h : Option Held) → MatchOption found (h ≡ None) (λ i. IsSomeAnd h (λ x. x ≡ InHall i)) → holder h ≡ line_first None found
unfolding line_first
held_in_hall (Some i) (Some x) e = ap (λ x. holder (Some x)) e
held_in_hall (Some i) None e = absurd e
held_in_hall None h e = ap holder e

-- which is what stands in the tables
pub looked_up_stands :
    (hall hall_index line line_index wanted : List ℕ) → Searchable hall hall_index × Searchable line line_index
    → let in_line = searched line line_index wanted in
    let in_hall = searched hall hall_index wanted in
    looked_up (got tt) in_line in_hall ≡ found_in (stands hall line wanted) (compared_in_both in_line in_hall)
unfolding looked_up stands
looked_up_stands hall hall_index line line_index wanted both =
    rw (searched_finds line line_index wanted both.1.beside, searched_finds hall hall_index wanted both.0.beside)

-- which is handed back with the names counted
pub handed_back :
    (hall hall_index line line_index wanted : List ℕ) {h : Holder} {n : ℕ} → Searchable hall hall_index × Searchable line line_index
    → let in_line = searched line line_index wanted in
    let in_hall = searched hall hall_index wanted in
    h ≡ stands hall line wanted → n ≡ compared_in_both in_line in_hall → found_in h n ≡ looked_up (got tt) in_line in_hall
handed_back hall hall_index line line_index wanted both e counted =
    ap₂ found_in e counted ∙ sym (looked_up_stands hall hall_index line line_index wanted both)

-- and the row that it leads to is the one that is found
abbrev Within : List ℕ → List ℕ → Holder → Type 0
Within hall line (Line i) = i < rows line
Within hall line (Hall i) = i < rows hall
Within hall line Neither = Unit {0}

module _ (hall line wanted : List ℕ) where
  within : Within hall line (stands hall line wanted)
  unfolding stands line_first
  within = go (lookup line wanted) refl (lookup hall wanted) refl
    where
      go : (f : Option ℕ) → lookup line wanted ≡ f → (g : Option ℕ) → lookup hall wanted ≡ g → Within hall line (line_first f g)
      go (Some i) e g d = (lookup_found line wanted i e).0
      go None e (Some i) d = (lookup_found hall wanted i d).0
      go None e None d = tt

  pub row_in_line : {i : ℕ} → Line i ≡ stands hall line wanted → (i < rows line) × (row line i ≡ find_row hall line wanted)
  unfolding find_row held_row
  row_in_line e = (subst (Within hall line) (sym e) within, ap (held_row hall line) e)

  pub row_in_hall : {i : ℕ} → Hall i ≡ stands hall line wanted → (i < rows hall) × (row hall i ≡ find_row hall line wanted)
  unfolding find_row held_row
  row_in_hall e = (subst (Within hall line) (sym e) within, ap (held_row hall line) e)

  pub no_row : Neither ≡ stands hall line wanted → [] ≡ find_row hall line wanted
  unfolding find_row held_row
  no_row e = ap (held_row hall line) e
