-- Numbers that bytes spell, low byte first. Assumes nothing.
use Rattle.std.specs.Prelude.{◌≡◌, refl, Bool, true, false, List, [], ◌∷◌, ◌++◌, ℕ, zero, suc, ◌+◌, ◌*◌, ◌^◌, ◌≤◌, ◌<◌, leb, length, get_or, slice_index, take, drop}
use Rattle.std.proofs.Common.{mul-add, mul_assoc, mul_comm, mul-le-mul, add_assoc, le_refl, le_of_suc-le-suc, pow-suc, add-one, arith, lit<, pow-add, pow_mono, length-take, length-drop, leb-true, leb-false, drop-cons, drop-drop, take-add, get_or-take, get_or-drop}
use Rattle.std.proofs.Math.Nat.{pow-succ'}
use Rattle.std.proofs.Math.ListN.{get_or-eq_default}
use Rattle.std.specs.Int.{byte_worth, sum_through}
use Rattle.rules.specs.SettingsAndUnitTable.{low_first}
use Rattle.rules.specs.Laws.Lists.{Bytes}

-- a number from the bytes of two parts
low_first_append : (xs ys : List ℕ) → low_first (xs ++ ys) ≡ low_first xs + 256 ^ length xs * low_first ys
unfolding low_first
low_first_append [] ys = omega arith
low_first_append (b ∷ xs) ys = rw (low_first_append xs ys, mul-add, pow-succ', mul_assoc, add_assoc)

-- from a place on, the number of twice as many bytes is that of one half and that of the other
pub low_first_twice : (l : List ℕ) (at k : ℕ) → at + k ≤ length l → low_first (take (k + k) (drop at l)) ≡ low_first (take k (drop at l)) + 256 ^ k * low_first (take k (drop (at + k) l))
low_first_twice l at k h =
    let full : length (take k (drop at l)) ≡ k = simp (length-take, length-drop) (omega arith) in
    rw (take-add k k (drop at l), low_first_append (take k (drop at l)) (take k (drop k (drop at l))), full, drop-drop k at l)

pub low_first_byte : (l : List ℕ) (at : ℕ) → at < length l → low_first (take 1 (drop at l)) ≡ get_or l at 0
unfolding low_first
low_first_byte l at h = rw (drop-cons l at 0 h) (omega arith)

-- a part of bytes is bytes
pub bytes_part : (l : List ℕ) (n k : ℕ) → Bytes l → Bytes (take n (drop k l))
bytes_part l n k b i = go (leb n i) refl
  where
    go : (t : Bool) → leb n i ≡ t → get_or (take n (drop k l)) i 0 < 256
    go true e = rw (get_or-eq_default (take n (drop k l)) 0 {n = i} (simp length-take (omega (arith, leb-true n i e)))) (omega arith)
    go false e = rw (get_or-take n (drop k l) i 0 (leb-false n i e), get_or-drop k l i 0) (b (k + i))

-- ---- a byte more

-- a number of so many bytes
pub low_first_below : (l : List ℕ) → Bytes l → low_first l < 2 ^ (8 * length l)
unfolding low_first
low_first_below [] p = lit< tt
low_first_below (b ∷ l) p =
    let more : 8 * suc (length l) ≡ 8 + 8 * length l = omega arith in
    rw (more, pow-add 2 8 (8 * length l)) (omega (arith, p 0, low_first_below l (λ k. p (suc k))))

-- a byte is eight bits
eight_bits : (i : ℕ) → 256 ^ i ≡ 2 ^ (8 * i)
eight_bits zero = refl
eight_bits (suc i) =
    let more : 8 * suc i ≡ 8 * i + 8 = omega arith in
    rw (pow-suc 256 i, eight_bits i, more, pow-add 2 (8 * i) 8)

module _ (l : List ℕ) (i : ℕ) (here : i < length l) where
  pub low_first_more : low_first (take (i + 1) l) ≡ low_first (take i l) + get_or l i 0 * 2 ^ (8 * i)
  low_first_more =
      let counted : length (take i l) ≡ i = simp length-take (omega arith) in
      rw (
        take-add i 1 l,
        low_first_append (take i l) (take 1 (drop i l)),
        low_first_byte l i here,
        counted,
        eight_bits i,
        mul_comm (2 ^ (8 * i)) (get_or l i 0),
      )

-- the first bytes, as many as there are
pub low_first_part : (l : List ℕ) (i : ℕ) → i ≤ length l → Bytes l → low_first (take i l) < 2 ^ (8 * i)
low_first_part l i h p =
    let counted : length (take i l) ≡ i = simp length-take (omega arith) in
    rw counted at (low_first_below (take i l) (bytes_part l i 0 p))

-- what stands in the bits that a word has, and a byte above them
pub above_fits : (word bits byte : ℕ) → word < 2 ^ bits → bits ≤ 56 → byte < 256 → word + byte * 2 ^ bits < 2 ^ 64
above_fits word bits byte h few b =
    let most : byte * 2 ^ bits ≤ 255 * 2 ^ bits = mul-le-mul (le_of_suc-le-suc b) (le_refl (2 ^ bits)) in
    omega (arith, pow-add 2 8 bits, pow_mono {i = 8 + bits} {j = 64} (omega arith))

-- the library reads the same number of so many bytes and one
pub read_low_first : (l : List ℕ) (n : ℕ) → n < length l → sum_through (λ i. byte_worth i (slice_index l i)) n ≡ low_first (take (n + 1) l)
unfolding low_first
read_low_first l zero h = rw (low_first_more l 0 h) (omega arith)
read_low_first l (suc n) h = rw (low_first_more l (suc n) h, read_low_first l n (omega arith), eight_bits (suc n), add-one n)
