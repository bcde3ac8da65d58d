-- Where two tables are accepted and the merged one has not too many rows, it is accepted too; and then every entry answers the same under both.
-- Assumes nothing.
use Rattle.std.specs.Prelude.{◌≡◌, refl, Bool, true, false, List, [], ◌++◌}
use Rattle.std.proofs.Common.{sym, ◌∙◌, arith}
use Rattle.std.proofs.lemmas.Bool.{false≢true}
use Prim.Native.Nat.{ℕ, zero, suc, ◌+◌, ◌≤◌, ◌<◌}
use Rattle.rules.specs.declared.Length.{Length}
use Rattle.rules.specs.declared.Refusal.TheVariants.{TableSize, BadRow}
use Rattle.rules.specs.declared.Settings.{Settings}
use Rattle.rules.specs.Common.{same}
use Rattle.rules.specs.NumbersHandedBack.{got, ◌>>◌, unless}
use Rattle.rules.specs.SettingsAndUnitTable.{most_rows, rows, rows_in, row, name, named, named_in, row_formed_in, row_right_in, row_accepted, row_accepted_in, whole_rows_in, rows_check, units_check_in, table_check, line_check, card_check}
use Rattle.rules.specs.WhatEveryEntryOwes.{part_answer, total_answer, shift_answer, shifted_record}
use Rattle.rules.proofs.Laws.Choices.{if_either}
use Rattle.rules.proofs.Laws.Tests.{or_false}
use Rattle.rows.specs.Laws.Rows.{length_row}
use Rattle.card.specs.Laws.Table.{named_earlier, row_both, right_unnamed}
use Rattle.card.specs.Laws.Accepted.{UnitsGood, units_accepted, card_settings, card_hall, card_line, card_numerals}
use Rattle.line_names.specs.TheMergedTable.{others, merged}
use Rattle.line_names.specs.OneBehindAnother.{Whole, row_before, row_behind, row_of_either, named_before, named_behind, row_whole, one_row, the_row}
use Rattle.line_names.proofs.EachRow.{each_other, merged_whole}
use Rattle.line_names.specs.ReadAlike.{Alike, of_both, of_merged}
use Rattle.line_names.proofs.ReadAlike.{part_answer_alike, total_answer_alike, shift_answer_alike, shifted_record_alike, merged_alike}

module _ (s : Settings) where
  -- each row is accepted
  abbrev Each : List ℕ → Type 0
  Each table = (i : ℕ) → i < rows table → row_accepted s table i ≡ true

  -- a row is accepted by its bytes, and by whether a row before it has its name
  accepted_alike :
      (t u : List ℕ) (i j : ℕ) → row t i ≡ row u j → named t (name (row u j)) i ≡ named u (name (row u j)) j
      → row_accepted s t i ≡ row_accepted s u j
  unfolding row_accepted_in row_right_in row_formed_in
  accepted_alike t u i j rows names = rw (rows, names)

  -- a table behind another that has none of its names
  each_behind : (a b : List ℕ) → Whole a → Each a → Each b → ((j : ℕ) → j < rows b → named a (name (row b j)) (rows a) ≡ false) → Each (a ++ b)
  each_behind a b whole first second none =
      row_of_either a b whole (λ i. row_accepted s (a ++ b) i ≡ true)
      (λ i below. accepted_alike (a ++ b) a i i (row_before a b i below) (named_before a b (name (row a i)) i (omega arith)) ∙ first i below)
      (λ j below.
      accepted_alike (a ++ b) b (rows a + j) j (row_behind a b whole j) (named_behind a b (name (row b j)) whole (none j below) j) ∙ second j below)

  module _ (hall : List ℕ) (good : Each hall) where
    unnamed_before : (k : ℕ) → k < rows hall → named hall (name (row hall k)) k ≡ false
    unnamed_before k below = right_unnamed s hall k (row_both s hall k (good k below)).0

    -- no row has an earlier one's name
    other_name : (i k : ℕ) → i < k → k < rows hall → same (name (row hall i)) (name (row hall k)) ≡ false
    other_name i k earlier below = go (same (name (row hall i)) (name (row hall k))) refl
      where
        go : (t : Bool) → same (name (row hall i)) (name (row hall k)) ≡ t → t ≡ false
        go true e = absurd (false≢true (sym (unnamed_before k below) ∙ named_earlier hall (name (row hall k)) k i earlier e))
        go false e = refl

    -- a row of it is accepted as a table
    row_alone : (i : ℕ) → i < rows hall → Each (row hall i)
    unfolding named_in
    row_alone i below k first =
        let sized = length_row hall i below in
        let is_first : k ≡ 0 = omega (arith, one_row (row hall i) sized) in
        rw is_first (accepted_alike (row hall i) hall 0 i (the_row (row hall i) sized) (sym (unnamed_before i below)) ∙ good i below)

    -- and has none of the names behind it
    none_behind :
        (line : List ℕ) (n i : ℕ) → suc i + n ≤ rows hall
        → (j : ℕ) → j < rows (others hall line (suc i) n) → named (row hall i) (name (row (others hall line (suc i) n) j)) (rows (row hall i)) ≡ false
    unfolding named_in
    none_behind line n i within j below =
        let kept = each_other hall line n (suc i) within j below in
        let sized = length_row hall i (omega arith) in
        rw (one_row (row hall i) sized, the_row (row hall i) sized, or_false, kept.is_row)
        (other_name i kept.k (omega (arith, kept.from)) (omega (arith, kept.to)))

    others_accepted : (line : List ℕ) (n i : ℕ) → i + n ≤ rows hall → Each (others hall line i n)
    unfolding others rows_in
    others_accepted line zero i within = λ k below. absurd (omega arith)
    others_accepted line (suc n) i within =
        let r = row hall i in
        let more = others hall line (suc i) n in
        let behind : Each more = others_accepted line n (suc i) (omega arith) in
        if_either Each (named line (name r) (rows line))
        (λ _. behind)
        (λ _. each_behind r more (row_whole r (length_row hall i (omega arith))) (row_alone i (omega arith)) behind (none_behind line n i (omega arith)))

  module _ (hall line : List ℕ) (few : rows (merged hall line) ≤ most_rows) where
    merged_accepted : UnitsGood s hall → UnitsGood s line → UnitsGood s (merged hall line)
    unfolding merged
    merged_accepted hall_good line_good = record {
      whole = merged_whole hall line line_good.whole;
      most = few;
      each =
          each_behind line (others hall line 0 (rows hall)) line_good.whole line_good.each (others_accepted hall hall_good.each line (rows hall) 0 (omega arith))
          (λ j below. (each_other hall line (rows hall) 0 (omega arith) j below).unshared);
    }

-- ---- the card, and the entries

no_line : (s : Settings) → line_check s [] ≡ got tt
unfolding line_check units_check_in whole_rows_in rows_in rows_check unless ◌>>◌
no_line s = refl

module _
    (s : Settings) (hall line numerals : List ℕ) (good : card_check (of_both s hall line numerals) ≡ got tt)
    (few : rows (merged hall line) ≤ most_rows) where
  merged_checked : table_check s (merged hall line) ≡ got tt
  unfolding table_check
  merged_checked = units_accepted TableSize BadRow s _ (merged_accepted s hall line few (card_hall _ good) (card_line _ good))

  pub merged_card_accepted : card_check (of_merged s hall line numerals) ≡ got tt
  unfolding card_check ◌>>◌
  merged_card_accepted = rw (card_settings _ good, merged_checked, no_line s, card_numerals _ good)

  -- and what the entries answer is the same
  alike : Alike (of_merged s hall line numerals) (of_both s hall line numerals)
  alike = merged_alike s hall line numerals (card_line _ good).whole

  checked : card_check (of_merged s hall line numerals) ≡ card_check (of_both s hall line numerals)
  checked = merged_card_accepted ∙ sym good

  module _ (text : List ℕ) where
    pub merged_part_answer : (place : ℕ) → part_answer (of_merged s hall line numerals) text place ≡ part_answer (of_both s hall line numerals) text place
    merged_part_answer = part_answer_alike alike checked text

    pub merged_total_answer : total_answer (of_merged s hall line numerals) text ≡ total_answer (of_both s hall line numerals) text
    merged_total_answer = total_answer_alike alike checked text

    module _ (so_far : Length) where
      pub merged_shift_answer : shift_answer so_far (of_merged s hall line numerals) text ≡ shift_answer so_far (of_both s hall line numerals) text
      merged_shift_answer = shift_answer_alike alike checked text so_far

      pub merged_shifted_record : shifted_record so_far (of_merged s hall line numerals) text ≡ shifted_record so_far (of_both s hall line numerals) text
      merged_shifted_record = shifted_record_alike alike checked text so_far
