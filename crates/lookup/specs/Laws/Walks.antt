-- A search on its way: so many names have been compared, and what is left decides. Row by row, and through an index. Assumes nothing.
use Rattle.std.specs.Prelude.{◌≡◌, refl, Bool, true, false, List, ℕ, suc, ◌++◌, ◌+◌, ◌*◌, ◌-◌, ◌/◌, ◌≤◌, ◌<◌, length, take, Some, None}
use Rattle.std.proofs.Common.{sym, ◌∙◌, zero-add, add-one}
use Rattle.std.proofs.Math.Path.{ap}
use Rattle.std.proofs.Math.Nat.{sub-zero}
use native.Mathlib.Omega.{arith}
use Rattle.std.proofs.Math.ListN.{drop, length-drop, length-append}
use Rattle.std.proofs.Math.Seq.{drop-drop}
use Rattle.std.proofs.lemmas.List.{take_at, drop_at}
use Rattle.rules.specs.Common.{when◌then◌else◌, same}
use Rattle.rules.specs.SettingsAndUnitTable.{row_size, rows, rows_in, row, row_in, name}
use Rattle.rows.specs.Named.{padded, Padded, found_row, row_named}
use Rattle.rows.specs.Laws.Rows.{length_row}
use Rattle.index.specs.declared.Searched.{Searched}
use Rattle.std.specs.declared.cmp.Ordering.TheVariants.{Less, Equal, Greater}
use Rattle.index.specs.TheSortedIndex.{order, row_search_from, row_search, by_order, index_search}
use Rattle.index.specs.Laws.Right.{entry, entry_name}
use Rattle.index.proofs.Laws.Searches.{row_search_finds, probes, probes_all, probes_none, probes_more}

-- so many names were compared before
abbrev pub passed : ℕ → Searched → Searched
passed n s = record { found = s.found; compared = n + s.compared }

counted : (f : Searched) {n : ℕ} → f.compared ≡ n → f ≡ record { found = f.found; compared = n }
counted f e = ap (λ (k : ℕ). record { found = f.found; compared = k }) e

-- ---- row by row: the rows up to this one are passed, and the rest is the table's

pub record Walking (table wanted : List ℕ) (at : ℕ) (rest : List ℕ) : Type 0 where
  pub few : at ≤ rows table
  pub further : rest ≡ drop (row_size * at) table
  pub decides : passed at (row_search_from table wanted at (rows table - at)) ≡ row_search table wanted

pub walk_starts : (table wanted : List ℕ) → Walking table wanted 0 table
unfolding row_search
walk_starts table wanted = record { few = omega arith; further = refl; decides = rw (sub-zero, zero-add) }

module _ {table wanted : List ℕ} {at : ℕ} {rest : List ℕ} (w : Walking table wanted at rest) where
  rest_long : length rest ≡ length table - row_size * at
  rest_long = ap length w.further ∙ length-drop (row_size * at) table

  -- none is left
  pub walk_ends : length rest < row_size → record { found = None; compared = at } ≡ row_search table wanted
  unfolding rows_in row_search_from
  walk_ends h =
      let done : rows table - at ≡ 0 = omega (arith, rest_long) in
      counted _ (omega arith) ∙ rw done at w.decides

  -- a row is left
  module _ (more : row_size ≤ length rest) where
    pub walk_below : at < rows table
    unfolding rows_in
    walk_below = omega (arith, rest_long)

    -- rows are counted by a number that a table's size has room for
    pub walk_fits : at + 1 ≤ length table
    unfolding rows_in
    walk_fits = omega (arith, walk_below)

    pub walk_long : length (take row_size rest) ≡ row_size
    unfolding row_in
    walk_long = ap (λ l. length (take row_size l)) w.further ∙ length_row table at walk_below

  -- a row and what is behind it
  module _ (here more : List ℕ) (parts : rest ≡ here ++ more) (sized : length here ≡ row_size) where
    long : row_size ≤ length rest
    long = rw (parts, length-append here more) (omega arith)

    -- the row that is asked, the first of the rest
    pub walk_row : here ≡ row table at
    unfolding row_in
    walk_row = sym (take_at here more row_size sized) ∙ ap (take row_size) (sym parts ∙ w.further)

    left : rows table - at ≡ suc (rows table - (at + 1))
    left = omega (arith, walk_below long)

    -- what is asked of it is whether it has the name
    walk_asks : {b : Bool} → same (name here) wanted ≡ b → same (name (row table at)) wanted ≡ b
    walk_asks e = ap (λ r. same (name r) wanted) (sym walk_row) ∙ e

    -- which it may be asked: it is a row, with zeros after its name
    pub walk_padded : Padded table → (length here ≡ row_size) × (padded here ≡ true)
    walk_padded rooms = (sized, rw walk_row (rooms at (walk_below long)))

    pub walk_finds : same (name here) wanted ≡ true → record { found = Some at; compared = at + 1 } ≡ row_search table wanted
    unfolding row_search_from when◌then◌else◌
    walk_finds e = rw (left, walk_asks e) at w.decides

    pub walk_goes_on : same (name here) wanted ≡ false → Walking table wanted (at + 1) more
    unfolding row_search_from when◌then◌else◌
    walk_goes_on e =
        let places : row_size * at + row_size ≡ row_size * (at + 1) = omega arith in
        let behind : Searched = row_search_from table wanted (at + 1) (rows table - (at + 1)) in
        record {
          few = omega (arith, walk_below long);
          further =
              sym (drop_at here more row_size sized)
              ∙ ap (drop row_size) (sym parts ∙ w.further)
              ∙ drop-drop row_size (row_size * at) table
              ∙ ap (λ n. drop n table) places;
          decides = counted (passed (at + 1) behind) (omega arith) ∙ rw (left, walk_asks e, ← (add-one at)) at w.decides;
        }

-- the row that a search found, as a part of its table
pub named_found : (table wanted : List ℕ) {s : Searched} → s ≡ row_search table wanted → found_row table s.found ≡ row_named table wanted
unfolding row_named
named_found table wanted e = ap (λ (s : Searched). found_row table s.found) e ∙ ap (found_row table) (row_search_finds table wanted)

-- ---- through an index: the entries from low up to high are left

pub record Probing (table index wanted : List ℕ) (low high compared : ℕ) : Type 0 where
  pub rises : low ≤ high
  pub within : high ≤ rows table
  pub gone : compared + (high - low) ≤ rows table
  pub decides : passed compared (probes table index wanted low high) ≡ index_search table index wanted

pub probe_starts : (table index wanted : List ℕ) {high : ℕ} → high ≡ rows table → Probing table index wanted 0 high 0
probe_starts table index wanted e =
    record { rises = omega arith; within = omega arith; gone = omega arith; decides = rw (e, probes_all table index wanted, zero-add) }

module _ {table index wanted : List ℕ} {low high compared : ℕ} (p : Probing table index wanted low high compared) where
  pub probe_ends : high ≤ low → record { found = None; compared = compared } ≡ index_search table index wanted
  probe_ends h = counted _ (omega arith) ∙ rw (probes_none table index wanted low high h) at p.decides

  module _ (some : low < high) where
    abbrev middle : ℕ
    middle = (low + high) / 2

    pub middle_within : middle < rows table
    middle_within = omega (arith, p.within)

    -- what is counted fits a number that a table's size has room for
    pub probe_fits : (low + high ≤ length table) × (compared + 1 ≤ length table)
    unfolding rows_in
    probe_fits = (omega (arith, p.within), omega (arith, p.gone))

    pub probe_finds : order wanted (entry_name table index middle) ≡ Equal → record { found = Some (entry index middle); compared = compared + 1 } ≡ index_search table index wanted
    unfolding by_order
    probe_finds o = rw (probes_more table index wanted low high some, o) at p.decides

    pub probe_below : order wanted (entry_name table index middle) ≡ Less → Probing table index wanted low middle (compared + 1)
    unfolding by_order
    probe_below o = record {
      rises = omega arith;
      within = omega (arith, p.within);
      gone = omega (arith, p.gone);
      decides = counted (passed (compared + 1) (probes table index wanted low middle)) (omega arith) ∙ rw (probes_more table index wanted low high some, o) at p.decides;
    }

    pub probe_above : order wanted (entry_name table index middle) ≡ Greater → Probing table index wanted (middle + 1) high (compared + 1)
    unfolding by_order
    probe_above o = record {
      rises = omega arith;
      within = p.within;
      gone = omega (arith, p.gone);
      decides =
          counted (passed (compared + 1) (probes table index wanted (middle + 1) high)) (omega arith)
          ∙ rw (probes_more table index wanted low high some, o, ← (add-one middle)) at p.decides;
    }
