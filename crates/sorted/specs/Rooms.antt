-- The order of two names by the rooms that they stand in, of which the rest is zeros. Assumes nothing.
use Rattle.std.specs.Prelude.{◌≡◌, Bool, List, [], ◌∷◌, eqb, take, drop}
use Rattle.std.proofs.Math.Path.{refl, sym, ap}
use Rattle.std.proofs.Common.{◌∙◌, length-take, length-drop, below_more}
use Rattle.std.proofs.Math.Bool.{true, false}
use Prim.Native.Nat.{ℕ, zero, suc, ◌+◌, ◌-◌, ◌≤◌, ◌<◌}
use native.Mathlib.Omega.{arith}
use Rattle.std.proofs.Math.Dec.{ltb}
use Rattle.std.proofs.Math.ListN.{length, get_or, get_or-eq_default}
use Rattle.std.proofs.Math.Seq.{get_or-take, get_or-drop}
use borrow.Author.Tests.{ltb-true, ltb-false, eqb-true}
use Rattle.rules.specs.Common.{all, between}
use Rattle.rules.specs.SettingsAndUnitTable.{name_room, name_at, row_size, name_size, name, after_name_in, low_first}
use Rattle.rules.proofs.Laws.Choices.{and_right}
use Rattle.rules.specs.Laws.Lists.{Bytes}
use Rattle.rules.proofs.Laws.Lists.{all_index}
use Rattle.words.specs.LowFirst.{bytes_part}
use Rattle.rows.specs.Named.{padded}
use Rattle.rows.specs.Laws.Rooms.{low_first_only, size_most, name_bytes}
use Rattle.index.specs.TheSortedIndex.{order, is_before, before}
use Rattle.index.proofs.Laws.Order.{before_less, before_further}

-- ---- names, and nothing behind them

-- the first byte that differs decides, where the end of a name counts as 0
first_byte : (x y : List ℕ) (i : ℕ) → ((j : ℕ) → j < i → get_or x j 0 ≡ get_or y j 0) → get_or x i 0 < get_or y i 0 → before x y ≡ true
unfolding before is_before order
first_byte [] [] i alike less = absurd (omega (arith, get_or-eq_default {A = ℕ} [] 0 {n = i} (omega arith)))
first_byte [] (b ∷ bs) i alike less = refl
first_byte (a ∷ more) [] i alike less = absurd (omega (arith, get_or-eq_default {A = ℕ} [] 0 {n = i} (omega arith)))
first_byte (a ∷ more) (b ∷ bs) zero alike less = before_less a b more bs less
first_byte (a ∷ more) (b ∷ bs) (suc i) alike less =
    before_further a b more bs (alike 0 (omega arith)) (first_byte more bs i (λ j h. alike (suc j) (omega arith)) less)

-- the same bytes, and more behind them
longer : (x y : List ℕ) → ((j : ℕ) → j < length x → get_or x j 0 ≡ get_or y j 0) → length x < length y → before x y ≡ true
unfolding before is_before order
longer [] [] alike less = absurd (omega arith)
longer [] (b ∷ bs) alike less = refl
longer (a ∷ more) [] alike less = absurd (omega arith)
longer (a ∷ more) (b ∷ bs) alike less =
    before_further a b more bs (alike 0 (omega arith)) (longer more bs (λ j h. alike (suc j) (omega arith)) (omega arith))

-- ---- a name in its room

module _ (r : List ℕ) (long : length r ≡ row_size) (p : padded r ≡ true) where
  after_zero : (j : ℕ) → name_size r ≤ j → j < name_room → get_or r (name_at + j) 0 ≡ 0
  unfolding padded after_name_in
  after_zero j from to =
      let size : ℕ = name_size r in
      let k : ℕ = j - size in
      let zeros : all (eqb 0) (take (name_room - size) (drop (name_at + size) r)) ≡ true = and_right (between 1 name_room size) _ p in
      let inside : k < length (take (name_room - size) (drop (name_at + size) r)) = simp (length-take, length-drop) (omega arith) in
      let zero_there : 0 ≡ get_or (take (name_room - size) (drop (name_at + size) r)) k 0 = eqb-true 0 _ (all_index (eqb 0) _ k 0 zeros inside) in
      let place : name_at + size + k ≡ name_at + j = omega arith in
      sym (zero_there ∙ get_or-take (name_room - size) (drop (name_at + size) r) k 0 (omega arith) ∙ get_or-drop (name_at + size) r k 0 ∙ ap (λ n. get_or r n 0) place)

  room_byte : (j : ℕ) → j < name_room → get_or r (name_at + j) 0 ≡ get_or (name r) j 0
  unfolding name
  room_byte j h = go (ltb j (name_size r)) refl
    where
      go : (t : Bool) → ltb j (name_size r) ≡ t → get_or r (name_at + j) 0 ≡ get_or (name r) j 0
      go true e = sym (get_or-take (name_size r) (drop name_at r) j 0 (ltb-true j (name_size r) e) ∙ get_or-drop name_at r j 0)
      go false e =
          after_zero j (ltb-false j (name_size r) e) h
          ∙ sym (get_or-eq_default (take (name_size r) (drop name_at r)) 0 {n = j} (omega (arith, ltb-false j (name_size r) e, name_bytes r long p)))

-- ---- two rows

-- the bytes of the rooms up to this place are the same
abbrev pub Alike : List ℕ → List ℕ → ℕ → Type 0
Alike row other at = (k : ℕ) → k < at → 1 ≤ k → get_or row k 0 ≡ get_or other k 0

pub alike_none : (row other : List ℕ) → Alike row other 1
alike_none row other k below some = absurd (omega arith)

pub alike_next : (row other : List ℕ) (at : ℕ) → Alike row other at → get_or row at 0 ≡ get_or other at 0 → Alike row other (at + 1)
alike_next row other at alike e = below_more (λ k. 1 ≤ k → get_or row k 0 ≡ get_or other k 0) at alike (λ some. e)

-- a word that is the same
pub alike_word :
    (row other : List ℕ) (at : ℕ) → at + 8 ≤ length row → at + 8 ≤ length other → Bytes row → Bytes other
    → Alike row other at → low_first (take 8 (drop at row)) ≡ low_first (take 8 (drop at other)) → Alike row other (at + 8)
alike_word row other at p q bytes others alike e k below some = go (ltb k at) refl
  where
    parts : take 8 (drop at row) ≡ take 8 (drop at other)
    parts = low_first_only (take 8 (drop at row)) (take 8 (drop at other)) (simp (length-take, length-drop) (omega arith)) (bytes_part row 8 at bytes) (bytes_part other 8 at others) e

    byte : at ≤ k → (l : List ℕ) → get_or (take 8 (drop at l)) (k - at) 0 ≡ get_or l k 0
    byte h l =
        let place : at + (k - at) ≡ k = omega arith in
        get_or-take 8 (drop at l) (k - at) 0 (omega arith) ∙ get_or-drop at l (k - at) 0 ∙ ap (λ n. get_or l n 0) place

    go : (t : Bool) → ltb k at ≡ t → get_or row k 0 ≡ get_or other k 0
    go true e = alike k (ltb-true k at e) some
    go false e =
        let from : at ≤ k = ltb-false k at e in
        sym (byte from row) ∙ ap (λ l. get_or l (k - at) 0) parts ∙ byte from other

module _ (row other : List ℕ) (long : length row ≡ row_size) (p : padded row ≡ true) (long_too : length other ≡ row_size) (q : padded other ≡ true) where
  names_alike : (at : ℕ) → at ≤ name_at + name_room → Alike row other at → (j : ℕ) → name_at + j < at → get_or (name row) j 0 ≡ get_or (name other) j 0
  names_alike at most alike j below =
      sym (room_byte row long p j (omega arith)) ∙ alike (name_at + j) below (omega arith) ∙ room_byte other long_too q j (omega arith)

  -- a byte of the rooms decides
  pub byte_decides : (at : ℕ) → 1 ≤ at → at < name_at + name_room → Alike row other at → get_or row at 0 < get_or other at 0 → before (name row) (name other) ≡ true
  byte_decides at some below alike less =
      let place : name_at + (at - 1) ≡ at = omega arith in
      let row_byte : get_or row at 0 ≡ get_or (name row) (at - 1) 0 = ap (λ n. get_or row n 0) (sym place) ∙ room_byte row long p (at - 1) (omega arith) in
      let other_byte : get_or other at 0 ≡ get_or (name other) (at - 1) 0 = ap (λ n. get_or other n 0) (sym place) ∙ room_byte other long_too q (at - 1) (omega arith) in
      first_byte (name row) (name other) (at - 1) (λ j h. names_alike at (omega arith) alike j (omega arith)) (omega arith)

  -- or the sizes do
  pub size_decides : (at : ℕ) → name_at + name_room ≤ at → Alike row other at → name_size row < name_size other → before (name row) (name other) ≡ true
  size_decides at whole alike less =
      longer (name row) (name other)
      (λ j h. names_alike (name_at + name_room) (omega arith) (λ k below. alike k (omega arith)) j (omega (arith, name_bytes row long p, size_most row long p)))
      (omega (arith, name_bytes row long p, name_bytes other long_too q))
