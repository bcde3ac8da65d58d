-- Each row of the merged table is one of the line's, or one of the hall's whose name the line has not; and without a table of the line's it is
-- the hall's. Assumes nothing.
use Rattle.std.specs.Prelude.{◌≡◌, false, List, [], ◌++◌, ◌⊎◌, take, drop}
use Rattle.std.proofs.Math.Path.{refl}
use Rattle.std.proofs.Common.{◌∙◌, arith, take_all, take-add, drop-drop}
use Rattle.std.proofs.Math.Logic.{inl, inr}
use Prim.Native.Nat.{ℕ, zero, suc, ◌+◌, ◌*◌, ◌≤◌, ◌<◌}
use Rattle.std.proofs.Math.ListN.{length}
use Rattle.rules.specs.Common.{when◌then◌else◌}
use Rattle.rules.specs.SettingsAndUnitTable.{row_size, rows, rows_in, row, row_in, name, named, named_in}
use Rattle.rules.proofs.Laws.Choices.{if_either}
use Rattle.rows.specs.Laws.Rows.{length_row}
use Rattle.line_names.specs.TheMergedTable.{others, merged}
use Rattle.line_names.specs.OneBehindAnother.{Whole, row_before, whole_both, row_behind, row_of_either, row_whole, row_first}

-- r is one of the n rows of the hall's from i on, and the line has not its name
pub record Kept (hall line : List ℕ) (i n : ℕ) (r : List ℕ) : Type 0 where
  pub k : ℕ
  pub from : i ≤ k
  pub to : k < i + n
  pub is_row : r ≡ row hall k
  pub unshared : named line (name r) (rows line) ≡ false

module _ (hall line : List ℕ) where
  one_more : {i n : ℕ} {r : List ℕ} → Kept hall line (suc i) n r → Kept hall line i (suc n) r
  one_more kept = record {
    k = kept.k;
    from = omega (arith, kept.from);
    to = omega (arith, kept.to);
    is_row = kept.is_row;
    unshared = kept.unshared;
  }

  pub others_whole : (n i : ℕ) → i + n ≤ rows hall → Whole (others hall line i n)
  unfolding others
  others_whole zero i within = refl
  others_whole (suc n) i within =
      let more = others_whole n (suc i) (omega arith) in
      if_either Whole (named line (name (row hall i)) (rows line))
      (λ _. more)
      (λ _. whole_both (row hall i) (others hall line (suc i) n) (row_whole (row hall i) (length_row hall i (omega arith))) more)

  pub each_other : (n i : ℕ) → i + n ≤ rows hall → (j : ℕ) → j < rows (others hall line i n) → Kept hall line i n (row (others hall line i n) j)
  unfolding others rows_in
  each_other zero i within = λ j below. absurd (omega arith)
  each_other (suc n) i within =
      let r = row hall i in
      let more = others hall line (suc i) n in
      let sized : length r ≡ row_size = length_row hall i (omega arith) in
      let behind : (j : ℕ) → j < rows more → Kept hall line i (suc n) (row more j) = λ j below. one_more (each_other n (suc i) (omega arith) j below) in
      if_either (λ table. (j : ℕ) → j < rows table → Kept hall line i (suc n) (row table j)) (named line (name r) (rows line))
      (λ _. behind)
      (λ none.
      row_of_either r more (row_whole r sized) (λ j. Kept hall line i (suc n) (row (r ++ more) j))
      (λ j below. rw (row_first r sized more j below) (record { k = i; from = omega arith; to = omega arith; is_row = refl; unshared = none }))
      (λ j below. rw (row_behind r more (row_whole r sized) j) (behind j below)))

module _ (hall line : List ℕ) (whole : Whole line) where
  pub merged_whole : Whole (merged hall line)
  unfolding merged
  merged_whole = whole_both line _ whole (others_whole hall line (rows hall) 0 (omega arith))

  pub each_row :
      (i : ℕ) → i < rows (merged hall line)
      → ((k : ℕ) × (k < rows line) × (row (merged hall line) i ≡ row line k)) ⊎ Kept hall line 0 (rows hall) (row (merged hall line) i)
  unfolding merged
  each_row =
      let behind = others hall line 0 (rows hall) in
      row_of_either line behind whole (λ i. ((k : ℕ) × (k < rows line) × (row (line ++ behind) i ≡ row line k)) ⊎ Kept hall line 0 (rows hall) (row (line ++ behind) i))
      (λ i below. inl (i, below, row_before line behind i below))
      (λ j below. inr (rw (row_behind line behind whole j) (each_other hall line (rows hall) 0 (omega arith) j below)))

-- a line without names has none of the hall's
all_rows : (hall : List ℕ) (n i : ℕ) → others hall [] i n ≡ take (row_size * n) (drop (row_size * i) hall)
unfolding others named_in rows_in row_in when◌then◌else◌
all_rows hall zero i = refl
all_rows hall (suc n) i =
    let first : row_size * suc n ≡ row_size + row_size * n = omega arith in
    let next : row_size * suc i ≡ row_size * i + row_size = omega arith in
    rw (all_rows hall n (suc i), first, next, take-add row_size (row_size * n), drop-drop row_size (row_size * i))

pub nothing_merged : (hall : List ℕ) → Whole hall → merged hall [] ≡ hall
unfolding merged rows_in
nothing_merged hall whole = all_rows hall (rows hall) 0 ∙ take_all (row_size * rows hall) hall (omega arith)
