-- A row laid over a table byte by byte. Assumes nothing.
use Rattle.std.specs.Prelude.{◌≡◌, get_or, set}
use Rattle.std.proofs.Common.{sym, ◌∙◌, add-one, length-take, take-suc}
use Rattle.std.proofs.Math.Path.{ap}
use mathlib.Core.List.{List, ◌++◌, append_assoc}
use Prim.Native.Nat.{ℕ, suc, ◌+◌, ◌*◌, ◌≤◌, ◌<◌}
use native.Mathlib.Omega.{arith}
use Rattle.std.proofs.Math.ListN.{length, take, drop}
use Rattle.std.proofs.Math.Seq.{take_all}
use Rattle.rules.specs.SettingsAndUnitTable.{row_size, rows, rows_in}
use Rattle.writing.specs.Laid.{laid, laid_length, laid_nothing, laid_byte}
use Rattle.index.specs.TheSortedIndex.{with_row}

module _ (table : List ℕ) (i : ℕ) (new : List ℕ) (below : i < rows table) (sized : length new ≡ row_size) where
  -- its first k bytes
  abbrev pub put_to : ℕ → List ℕ
  put_to k = laid table (row_size * i) (take k new)

  first_long : (k : ℕ) → k ≤ row_size → length (take k new) ≡ k
  first_long k few = simp length-take (omega arith)

  pub put_none : table ≡ put_to 0
  put_none = laid_nothing table (row_size * i)

  pub put_long : (k : ℕ) → k ≤ row_size → length (put_to k) ≡ length table
  unfolding rows_in
  put_long k few = laid_length table (row_size * i) (take k new) (omega (arith, first_long k few))

  pub put_next : (k : ℕ) → k < row_size → set (put_to k) (row_size * i + k) (get_or new k 0) ≡ put_to (k + 1)
  unfolding rows_in
  put_next k less =
      laid_byte table (row_size * i) (row_size * i + k) (take k new) (get_or new k 0) (omega (arith, first_long k (omega arith))) (omega arith)
      ∙ ap (laid table (row_size * i)) (sym (take-suc new k 0 (omega arith)) ∙ ap (λ n. take n new) (sym (add-one k)))

  pub put_all : {k : ℕ} → row_size ≤ k → k ≤ row_size → put_to k ≡ with_row table i new
  unfolding laid with_row
  put_all {k} least most =
      let whole : take k new ≡ new = take_all k new (omega arith) in
      let place : row_size * i + length new ≡ row_size * suc i = omega arith in
      let there : laid table (row_size * i) new ≡ with_row table i new = append_assoc (take (row_size * i) table) new _ ∙ ap (λ n. take (row_size * i) table ++ (new ++ drop n table)) place in
      ap (laid table (row_size * i)) whole ∙ there
