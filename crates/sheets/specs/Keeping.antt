-- What is kept of a line whose end has not been read. Assumes nothing.
use Rattle.std.specs.Prelude.{◌≡◌, List, ◌++◌, ℕ, ◌+◌, ◌-◌, ◌≤◌, ◌<◌, length, get_or, take, drop}
use Rattle.std.proofs.Common.{ap, ◌∙◌, arith, length-take, length-drop, get_or-append-add}
use Rattle.std.proofs.Math.Seq.{get_or-take, get_or-drop}
use Rattle.rules.specs.ThePartOfTheCrateWeTake.{longest_text}
use Rattle.writing.specs.Laid.{laid}
use Rattle.printing.specs.Printed.{kept_of}

-- what is kept of the bytes from one place of a buffer to another
unfoldable pub kept : List ℕ → ℕ → ℕ → List ℕ
kept buffer from end = kept_of (take (end - from) (drop from buffer))

-- what stands behind the bytes laid at a buffer's start
pub behind_laid : (buffer bytes : List ℕ) (n : ℕ) → length bytes ≤ n → get_or (laid buffer 0 bytes) n 0 ≡ get_or buffer n 0
unfolding laid
behind_laid buffer bytes n h =
    let sum : n ≡ length bytes + (n - length bytes) = omega arith in
    ap (λ m. get_or (bytes ++ drop (0 + length bytes) buffer) m 0) sum
    ∙ get_or-append-add bytes (drop (0 + length bytes) buffer) (n - length bytes) 0
    ∙ get_or-drop (0 + length bytes) buffer (n - length bytes) 0
    ∙ ap (λ m. get_or buffer m 0) (omega arith)

module _ (before : List ℕ) (from end : ℕ) where
  -- how many are kept: as many as there are, and not more than a text may have and one
  pub kept_most : (length (kept before from end) ≤ end - from) × (length (kept before from end) ≤ length before - from) × (length (kept before from end) ≤ longest_text + 1)
  unfolding kept
  kept_most = simp (length-take, length-drop) (omega arith)

  pub kept_more : (count : ℕ) → from + count < end → from + count < length before → count ≤ longest_text → count < length (kept before from end)
  unfolding kept
  kept_more count h k few = simp (length-take, length-drop) (omega arith)

  pub kept_byte : (count : ℕ) → count < length (kept before from end) → get_or (kept before from end) count 0 ≡ get_or before (from + count) 0
  unfolding kept
  kept_byte count h =
      get_or-take (longest_text + 1) (take (end - from) (drop from before)) count 0 (omega (arith, kept_most))
      ∙ get_or-take (end - from) (drop from before) count 0 (omega (arith, kept_most))
      ∙ get_or-drop from before count 0
