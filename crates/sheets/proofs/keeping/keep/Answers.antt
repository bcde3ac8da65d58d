-- `sheets::keeping::keep` meets its contract: as many bytes as there are, and not more than are kept, are moved. Assumes nothing.
use Rattle.std.proofs.Common.{◌≡◌, ℕ, zero, suc, ◌+◌, ◌-◌, ◌≤◌, ◌<◌, min, List, [], ◌∷◌, ◌++◌, length, take, drop, refl, sym, ap, ◌∙◌, arith, length-take, length-drop}
use Rattle.rules.specs.ThePartOfTheCrateWeTake.{longest_text}
use Rattle.writing.specs.Laid.{laid, laid_nothing}
use Rattle.sheets.specs.Keeping.{kept}
use Rattle.sheets.proofs.keeping.keep.Goals as goal

empty : (l : List ℕ) → length l ≡ 0 → l ≡ []
empty [] h = refl
empty (b ∷ l) h = absurd (omega arith)

-- of the first so many the first: as many as there are of either
take_both : (m n : ℕ) (l : List ℕ) {k : ℕ} → k ≡ min (min n (length l)) m → take m (take n l) ≡ take k l
take_both zero n l {k = k} e = let none : k ≡ 0 = omega arith in rw none
take_both (suc m) zero l {k = k} e = let none : k ≡ 0 = omega arith in rw none
take_both (suc m) (suc n) [] {k = zero} e = refl
take_both (suc m) (suc n) [] {k = suc k} e = refl
take_both (suc m) (suc n) (b ∷ l) {k = zero} e = absurd (omega arith)
take_both (suc m) (suc n) (b ∷ l) {k = suc k} e = ap (λ r. b ∷ r) (take_both m n l (omega arith))

module _ (buffer : List ℕ) (from end there : ℕ) (t : there ≡ min end (length buffer)) where
  -- nothing is there
  nothing : there ≤ from → kept buffer from end ≡ []
  unfolding kept
  nothing h = empty _ (simp (length-take, length-drop) (omega arith))

  -- or something, of which so many bytes are moved
  module _ (h : from < there) (count : ℕ) (c : count ≡ min (there - from) (longest_text + 1)) where
    something : kept buffer from end ≡ take count (drop from buffer)
    unfolding kept
    something = take_both (longest_text + 1) (end - from) (drop from buffer) (omega (arith, length-drop from buffer))

    size : count ≡ length (kept buffer from end)
    size = rw something (simp (length-take, length-drop) (omega arith))

    moved : {after : List ℕ} → after ≡ take 0 buffer ++ take (from + count - from) (drop from buffer) ++ drop (0 + (from + count - from)) buffer → after ≡ laid buffer 0 (kept buffer from end)
    unfolding laid
    moved a =
        let few : from + count - from ≡ count = omega arith in
        a ∙ rw few (rw something (ap (λ n. take 0 buffer ++ take count (drop from buffer) ++ drop (0 + n) buffer) (size ∙ ap length something)))

pub returns-then-there-from : goal.returns-then-there-from
returns-then-there-from c =
    let none = nothing _ _ _ _ c.min-there.ensures c.if-there-from.true in
    record { value = ap length (sym none); buffer_after = laid_nothing _ 0 ∙ ap (laid _ 0) (sym none) }

pub returns : goal.returns
returns c = record {
  value = size _ _ _ _ c.min-there.ensures c.if-there-from.false _ c.min-count.ensures;
  buffer_after = moved _ _ _ _ c.min-there.ensures c.if-there-from.false _ c.min-count.ensures c.copy_within.ensures.after;
}
