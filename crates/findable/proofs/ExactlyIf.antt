-- Request two's "exactly if", proved. Assumes nothing.
use Rattle.std.specs.Prelude.{◌≡◌, Bool, ◌↔◌, ltb, length, None}
use Rattle.std.proofs.Math.Path.{refl}
use Rattle.std.proofs.Common.{sym, ap, ◌∙◌}
use Rattle.std.proofs.Math.Bool.{true, false}
use Rattle.std.proofs.lemmas.Bool.{false≢true}
use mathlib.Core.List.{List, []}
use Prim.Native.Nat.{ℕ, zero, suc, ◌+◌, ◌≤◌, ◌<◌}
use native.Mathlib.Omega.{arith}
use Rattle.std.proofs.Math.Dec.{eqb}
use borrow.Author.Tests.{le-leb, eqb-true, eqb-false, ltb-true, ltb-false}
use Rattle.rules.specs.declared.Settings.{Settings}
use Rattle.rules.specs.declared.Refusal.{Refusal}
use Rattle.rules.specs.declared.Refusal.TheVariants.{TableSize, BadRow, LineSize, BadLineRow, NumeralsSize, BadNumeral}
use Rattle.rules.specs.ThePartOfTheCrateWeTake.{zero_length, longest_text}
use Rattle.rules.specs.NumbersHandedBack.{◌>>◌, Outcome, got, refused, unless}
use Rattle.rules.specs.SettingsAndUnitTable.{settings_check, most_numerals, rows, rows_in, row, name, can_be_typed, row_right, row_accepted, row_accepted_in, numeral_accepted, whole_rows, whole_rows_in, rows_check, units_check, units_check_in, table_check, line_check, numerals_check, numerals_check_in, Card, card_check, lookup, Holder, Hall}
use Rattle.rules.specs.WhatEveryEntryOwes.{read_total}
use Rattle.rules.proofs.Laws.Choices.{if_either, and_both}
use Rattle.rules.proofs.Laws.Outcomes.{Refused, not_refused, refused_by, the_cause, refused_if, refused_then}
use Rattle.card.specs.Laws.Table.{row_both}
use Rattle.card.specs.Laws.Accepted.{UnitsGood, card_settings, card_hall, card_line, card_numerals}
use Rattle.findable.specs.WhereAPartFindsItsUnit.{unit_of, finds}
use Rattle.findable.specs.OneOfTheTwoTables.{row_held, Whose, OfHall, OfLine, table_of, row_in, held_there, Unhidden, Alone}
use Rattle.findable.proofs.OneOfTheTwoTables.{alone_unhidden}
use Rattle.findable.proofs.NobodyCouldType.{part_typed, found_typed}
use Rattle.findable.proofs.HiddenByTheLine.{found_unhidden}
use Rattle.findable.specs.TheTextForARow.{text_for}
use Rattle.findable.proofs.ATextForEachRow.{Reads, row_typed, text_short}
use Rattle.findable.specs.ExactlyIf as said
use Rattle.findable.specs.ExactlyIf.{bad_row}

rows_told_apart : (whose : Whose) (i k : ℕ) → bad_row whose i ≡ bad_row whose k → i ≡ k
rows_told_apart OfHall i k e = cc
rows_told_apart OfLine i k e = cc

-- a refusal that names no unit row
abbrev OfNoRow : Refusal → Type 0
OfNoRow cause = (whose : Whose) (k : ℕ) → cause ≡ bad_row whose k → ⊥

-- ---- what the check of the n rows from i on comes to: each is accepted, or k is the first that is not

abbrev FirstBad : (ℕ → Bool) → ℕ → ℕ → ℕ → Type 0
FirstBad accepted i n k = (i ≤ k) × (k < i + n) × (accepted k ≡ false) × ((j : ℕ) → i ≤ j → j < k → accepted j ≡ true)

module _ (whose : Whose) (accepted : ℕ → Bool) where
  data Checked (i n : ℕ) : Outcome (Unit {0}) → Type 0 where
    all_good : ((j : ℕ) → i ≤ j → j < i + n → accepted j ≡ true) → Checked i n (got tt)
    first_bad : {k : ℕ} → FirstBad accepted i n k → Checked i n (refused (bad_row whose k))

  checked : (n i : ℕ) → Checked i n (rows_check accepted (bad_row whose) i n)
  unfolding rows_check
  checked zero i = all_good (λ j from to. absurd (omega arith))
  checked (suc n) i =
      if_either (Checked i (suc n)) (accepted i) (λ good. later good (checked n (suc i)))
      (λ bad. first_bad {k = i} (omega arith, omega arith, bad, λ j from to. absurd (omega arith)))
    where
      -- those behind the first, and the first
      and_first : accepted i ≡ true → (end : ℕ) → ((j : ℕ) → suc i ≤ j → j < end → accepted j ≡ true) → (j : ℕ) → i ≤ j → j < end → accepted j ≡ true
      and_first good end others j from to = go (eqb i j) refl
        where
          go : (here : Bool) → eqb i j ≡ here → accepted j ≡ true
          go true e = rw (← (eqb-true i j e)) good
          go false e = others j (omega (arith, eqb-false i j e)) to

      later : accepted i ≡ true → {m : Outcome (Unit {0})} → Checked (suc i) n m → Checked i (suc n) m
      later good (all_good others) = all_good (and_first good (i + suc n) (λ j from to. others j from (omega arith)))
      later good (first_bad {k = k} (from, to, bad, before)) = first_bad {k = k} (omega arith, omega arith, bad, and_first good k before)

  -- the rows, and behind them a check that refuses no unit row
  module _ (next : Outcome (Unit {0})) (n : ℕ) where
    abbrev both : Outcome (Unit {0})
    both = rows_check accepted (bad_row whose) 0 n >> next

    rows_exactly : Refused OfNoRow next → (k : ℕ) → (both ≡ refused (bad_row whose k)) ↔ FirstBad accepted 0 n k
    unfolding ◌>>◌
    rows_exactly other k = (out (checked n 0), into (checked n 0))
      where
        out : {m : Outcome (Unit {0})} → Checked 0 n m → (m >> next) ≡ refused (bad_row whose k) → FirstBad accepted 0 n k
        out (all_good good) e = absurd (the_cause other e whose k refl)
        out (first_bad {k = first} found) e = let same : bad_row whose first ≡ bad_row whose k = cc in rw (rows_told_apart whose first k same) at found

        into : {m : Outcome (Unit {0})} → Checked 0 n m → FirstBad accepted 0 n k → (m >> next) ≡ refused (bad_row whose k)
        into (all_good good) (from, to, bad, before) = absurd (false≢true (sym bad ∙ good k from to))
        into (first_bad {k = first} (from, to, bad, before)) (from', to', bad', before') = ap (λ i. refused (bad_row whose i)) (go (eqb first k) (ltb first k) refl refl)
          where
            go : (same less : Bool) → eqb first k ≡ same → ltb first k ≡ less → first ≡ k
            go true less e l = eqb-true first k e
            go false true e l = absurd (false≢true (sym bad ∙ before' first from (ltb-true first k l)))
            go false false e l = absurd (false≢true (sym bad' ∙ before k from' (omega (arith, eqb-false first k e, ltb-false first k l))))

    rows_pass : ((j : ℕ) → j < n → accepted j ≡ true) → both ≡ next
    unfolding ◌>>◌
    rows_pass good = go (checked n 0)
      where
        go : {m : Outcome (Unit {0})} → Checked 0 n m → (m >> next) ≡ next
        go (all_good _) = refl
        go (first_bad {k = k} (from, to, bad, before)) = absurd (false≢true (sym bad ∙ good k (omega arith)))

-- the check of the numerals is such a check
size_of_none : OfNoRow NumeralsSize
size_of_none OfHall k e = let never : ◌≡◌ {A = ℕ} 0 1 = cc in omega arith
size_of_none OfLine k e = let never : ◌≡◌ {A = ℕ} 0 1 = cc in omega arith

numeral_of_none : (i : ℕ) → OfNoRow (BadNumeral i)
numeral_of_none i OfHall k e = let never : ◌≡◌ {A = ℕ} 0 1 = cc in omega arith
numeral_of_none i OfLine k e = let never : ◌≡◌ {A = ℕ} 0 1 = cc in omega arith

module _ (numerals : List ℕ) where
  numeral_rows : (n i : ℕ) → Refused OfNoRow (rows_check (numeral_accepted numerals) BadNumeral i n)
  unfolding rows_check
  numeral_rows zero i = not_refused
  numeral_rows (suc n) i = refused_if (λ _. numeral_rows n (suc i)) (λ _. refused_by (numeral_of_none i))

  numerals_other : Refused OfNoRow (numerals_check numerals)
  unfolding numerals_check_in unless
  numerals_other = refused_then (unless NumeralsSize (whole_rows most_numerals numerals)) (size (whole_rows most_numerals numerals)) (numeral_rows (rows numerals) 0)
    where
      size : (test : Bool) → Refused OfNoRow (unless NumeralsSize test)
      size true = not_refused
      size false = refused_by size_of_none

-- ---- which rows are found

module _ (card : Card) where
  abbrev s : Settings
  s = card.settings

  module _ (whose : Whose) where
    abbrev table : List ℕ
    table = table_of whose card

    abbrev Findable : ℕ → Type 0
    Findable = said.Findable card whose

    abbrev Sized : Type 0
    Sized = said.Sized card whose

    abbrev Passes : Type 0
    Passes = said.Passes card whose

    -- an accepted row by `text_for`, which has at most 35 bytes, can be read and comes to zero, unless the line hides it
    its_text :
        settings_check s ≡ got tt
        → (i : ℕ)
        → i < rows table
        → row_accepted s table i ≡ true
        → Unhidden whose card (name (row table i))
        → (length (text_for s (name (row table i))) ≤ 35) × Reads card (row_in whose i) (text_for s (name (row table i)))
    its_text good i below accepted unhidden =
        let (right, typed) = row_both s table i accepted in
        (text_short card whose i below right, row_typed card whose i below right good typed unhidden)

    units_good : card_check card ≡ got tt → UnitsGood s table
    units_good good = go whose
      where
        go : (whose : Whose) → UnitsGood s (table_of whose card)
        go OfHall = card_hall card good
        go OfLine = card_line card good

    -- so each row of an accepted card, and by a text that is accepted under that card: every row of the line's, and those of the hall's whose
    -- names the line has not
    pub each_row_is_found :
        card_check card ≡ got tt
        → (i : ℕ)
        → i < rows table
        → Unhidden whose card (name (row table i))
        → (length (text_for s (name (row table i))) ≤ 35)
        × (read_total card (text_for s (name (row table i))) ≡ got zero_length)
        × (finds card (text_for s (name (row table i))) (row_in whose i) ≡ true)
    unfolding read_total unless ◌>>◌
    each_row_is_found good i below unhidden =
        let (short, (read, at)) = its_text (card_settings card good) i below ((units_good good).each i below) unhidden in
        (short, rw (good, le-leb (length (text_for s (name (row table i)))) longest_text (omega arith)) read, at)

  -- under an accepted card a row of the hall's is found exactly if the line has not its name
  pub hall_row_exactly :
      card_check card ≡ got tt
      → (i : ℕ)
      → i < rows card.hall
      → ((text : List ℕ) × (finds card text (Hall i) ≡ true)) ↔ (lookup card.line (name (row card.hall i)) ≡ None)
  hall_row_exactly good i below =
      (λ (text, found). found_unhidden card text i found, λ unhidden. (text_for s (name (row card.hall i)), (each_row_is_found OfHall good i below unhidden).2))

  -- a row that nobody could type is found by no part with digits, and by no text without a spoken number, whatever the card and whichever table
  module _ (at : Holder) (untyped : can_be_typed s (name (row_held card at)) ≡ false) where
    pub no_part_finds : (text : List ℕ) (place : ℕ) → unit_of card text place ≡ got at → ⊥
    no_part_finds text place e = false≢true (sym untyped ∙ part_typed card text place at e)

    pub no_text_finds : (text : List ℕ) → finds card text at ≡ true → ⊥
    no_text_finds text e = false≢true (sym untyped ∙ found_typed card text at e)

  -- ---- exactly if: a row that passes document 01's tests, whatever the other rows are, of a table by itself

  -- an empty table has nothing to refuse
  nothing_bad : (size : Refusal) (bad : ℕ → Refusal) → units_check size bad s [] ≡ got tt
  unfolding units_check_in whole_rows_in rows_in rows_check unless ◌>>◌
  nothing_bad size bad = refl

  -- so of a table by itself the check comes to its rows, and then the numerals
  checked_alone :
      (whose : Whose) → Alone whose card → settings_check s ≡ got tt → Sized whose
      → card_check card ≡ (rows_check (row_accepted s (table whose)) (bad_row whose) 0 (rows (table whose)) >> numerals_check card.numerals)
  unfolding card_check table_check line_check units_check_in unless ◌>>◌
  checked_alone OfHall none good sized = rw (good, sized, none, nothing_bad LineSize BadLineRow)
  checked_alone OfLine none good sized = rw (good, none, nothing_bad TableSize BadRow, sized)

  module _ (whose : Whose) (alone : Alone whose card) where
    module _ (good : settings_check s ≡ got tt) (i : ℕ) (below : i < rows (table whose)) (right : row_right s (table whose) i ≡ true) where
      pub row_accepted_exactly : (row_accepted s (table whose) i ≡ true) ↔ Findable whose i
      unfolding row_accepted_in
      row_accepted_exactly = (found, typed)
        where
          its_name : List ℕ
          its_name = name (row (table whose) i)

          found : row_accepted s (table whose) i ≡ true → Findable whose i
          found accepted =
              let (short, (read, at)) = its_text whose good i below accepted (alone_unhidden whose card alone its_name) in
              (text_for s its_name, omega arith, zero_length, read, at)

          typed : Findable whose i → row_accepted s (table whose) i ≡ true
          typed (text, short, l, read, at) = and_both right (rw (held_there whose card i) at (found_typed card text (row_in whose i) at))

      pub row_refused_exactly : (row_accepted s (table whose) i ≡ false) ↔ (Findable whose i → ⊥)
      row_refused_exactly = (λ bad found. false≢true (sym bad ∙ row_accepted_exactly.1 found), go (row_accepted s (table whose) i) refl)
        where
          go : (accepted : Bool) → row_accepted s (table whose) i ≡ accepted → (Findable whose i → ⊥) → accepted ≡ false
          go true e lost = absurd (lost (row_accepted_exactly.0 e))
          go false e lost = refl

    -- ---- exactly if: the card's first bad row

    module _ (good : settings_check s ≡ got tt) (sized : Sized whose) where
      the_rows : card_check card ≡ (rows_check (row_accepted s (table whose)) (bad_row whose) 0 (rows (table whose)) >> numerals_check card.numerals)
      the_rows = checked_alone whose alone good sized

      refused_first : (i : ℕ) → (card_check card ≡ refused (bad_row whose i)) ↔ FirstBad (row_accepted s (table whose)) 0 (rows (table whose)) i
      refused_first i =
          let exactly = rows_exactly whose (row_accepted s (table whose)) (numerals_check card.numerals) (rows (table whose)) (numerals_other card.numerals) i in
          (λ e. exactly.0 (sym the_rows ∙ e), λ first. the_rows ∙ exactly.1 first)

      -- where the rows before it are accepted, a row that passes document 01's tests is 7 with its number exactly if no text finds it,
      -- whatever the rows after it are
      pub bad_row_exactly :
          (i : ℕ) → i < rows (table whose) → row_right s (table whose) i ≡ true → ((j : ℕ) → j < i → row_accepted s (table whose) j ≡ true)
          → (card_check card ≡ refused (bad_row whose i)) ↔ (Findable whose i → ⊥)
      bad_row_exactly i below right before =
          let row_refused = row_refused_exactly good i below right in
          (λ e. row_refused.0 ((refused_first i).0 e).2, λ lost. (refused_first i).1 (omega arith, omega arith, row_refused.1 lost, λ j _ h. before j h))

    -- ---- exactly if: the card of which all rows pass document 01's tests

    module _ (passes : Passes whose) where
      pub accepted_exactly : (i : ℕ) → i < rows (table whose) → (row_accepted s (table whose) i ≡ true) ↔ Findable whose i
      accepted_exactly i below = row_accepted_exactly passes.0 i below (passes.2 i below)

      -- 7 with row i, or with 128 + row i, exactly if i is the first row that no text finds
      pub refused_exactly : (i : ℕ) → (card_check card ≡ refused (bad_row whose i)) ↔ ((i < rows (table whose)) × (Findable whose i → ⊥) × ((j : ℕ) → j < i → Findable whose j))
      refused_exactly i = (out, into)
        where
          out : card_check card ≡ refused (bad_row whose i) → (i < rows (table whose)) × (Findable whose i → ⊥) × ((j : ℕ) → j < i → Findable whose j)
          out e =
              let (from, within, bad, before) = (refused_first passes.0 passes.1 i).0 e in
              let below : i < rows (table whose) = omega arith in
              (below, (row_refused_exactly passes.0 i below (passes.2 i below)).0 bad, λ j h. (accepted_exactly j (omega arith)).0 (before j (omega arith) h))

          into : (i < rows (table whose)) × (Findable whose i → ⊥) × ((j : ℕ) → j < i → Findable whose j) → card_check card ≡ refused (bad_row whose i)
          into (below, lost, found) =
              (bad_row_exactly passes.0 passes.1 i below (passes.2 i below) (λ j h. (accepted_exactly j (omega arith)).1 (found j h))).1 lost

      -- and 0 exactly if each row is found and the numerals are accepted
      pub all_found_exactly : (card_check card ≡ got tt) ↔ (((i : ℕ) → i < rows (table whose) → Findable whose i) × (numerals_check card.numerals ≡ got tt))
      all_found_exactly = (
        λ good. (λ i below. (accepted_exactly i below).0 ((units_good whose good).each i below), card_numerals card good),
        λ (found, numerals).
            the_rows passes.0 passes.1
            ∙ rows_pass whose (row_accepted s (table whose)) (numerals_check card.numerals) (rows (table whose)) (λ j h. (accepted_exactly j h).1 (found j h))
            ∙ numerals,
      )
