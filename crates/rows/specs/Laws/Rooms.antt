-- Laws of a name in its room, of which the rest is zeros: the room is four words, and size and words decide. Assumes nothing.
use Rattle.std.specs.Prelude.{◌≡◌, refl, true, false, ◌&&◌, eqb, leb, get_or}
use Rattle.std.proofs.Math.Path.{sym, ap}
use Rattle.std.proofs.Common.{◌∙◌, div-one, length-take, take-append-drop, drop_of_length-le, take-take, get_or-drop, shr-shr}
use Rattle.std.proofs.Math.Bool.{Bool}
use mathlib.Core.List.{List, [], ◌∷◌, ◌++◌}
use Prim.Native.Nat.{ℕ, zero, suc, min, ◌+◌, ◌*◌, ◌-◌, ◌/◌, ◌^◌, ◌≤◌, ◌<◌}
use Rattle.std.proofs.Math.Nat.{zero-div}
use native.Mathlib.Omega.{arith}
use Rattle.std.proofs.Math.ListN.{length, take, drop, replicate, length-drop}
use Rattle.std.proofs.Math.Seq.{take-add, drop-drop}
use borrow.Author.Tests.{eq-eqb, eqb-true, leb-true}
use Rattle.rules.specs.Common.{all, between, same, starts}
use Rattle.rules.specs.SettingsAndUnitTable.{row_size, name_room, name_at, name_size, name, after_name, after_name_in, low_first}
use Rattle.rules.proofs.Laws.Choices.{and_left, and_right, and_both}
use Rattle.rules.proofs.Laws.Tests.{same_test, between_from, between_in}
use Rattle.rules.specs.Laws.Lists.{Bytes}
use Rattle.rules.proofs.Laws.Lists.{all_both, zeros_only}
use Rattle.rules.proofs.Laws.Texts.{drop_take}
use Rattle.words.specs.LowFirst.{bytes_part}
use Rattle.rows.specs.Named.{padded}
use Rattle.rows.specs.Laws.Lookup.{same_refl, same_equal, not_same}
use Rattle.rows.specs.Laws.Rows.{name_length}

-- ---- numbers of as many bytes are the same only if the bytes are

pub low_first_only : (a b : List ℕ) → length a ≡ length b → Bytes a → Bytes b → low_first a ≡ low_first b → a ≡ b
unfolding low_first
low_first_only [] [] n p q e = refl
low_first_only [] (y ∷ b) n p q e = absurd (omega arith)
low_first_only (x ∷ a) [] n p q e = absurd (omega arith)
low_first_only (x ∷ a) (y ∷ b) n p q e =
    let here : x ≡ y = omega (arith, p 0, q 0) in
    let rest : a ≡ b = low_first_only a b (omega arith) (λ k. p (suc k)) (λ k. q (suc k)) (omega (arith, p 0, q 0)) in
    cc

-- ---- eight bytes as a word

-- those from a place on
unfoldable pub word_of : List ℕ → ℕ → ℕ
word_of l at = low_first (take 8 (drop at l))

-- bytes of which the first n words are the same are the same so far
pub words_only :
    (n : ℕ) (a b : List ℕ) → 8 * n ≤ length a → 8 * n ≤ length b → Bytes a → Bytes b
    → ((k : ℕ) → k < n → word_of a (8 * k) ≡ word_of b (8 * k)) → take (8 * n) a ≡ take (8 * n) b
unfolding word_of
words_only zero a b p q bytes others e = refl
words_only (suc n) a b p q bytes others e =
    let more : 8 * suc n ≡ 8 * n + 8 = omega arith in
    let before : take (8 * n) a ≡ take (8 * n) b = words_only n a b (omega arith) (omega arith) bytes others (λ k h. e k (omega arith)) in
    let last : take 8 (drop (8 * n) a) ≡ take 8 (drop (8 * n) b) =
    low_first_only _ _ (simp (length-take, length-drop) (omega arith)) (bytes_part a 8 (8 * n) bytes) (bytes_part b 8 (8 * n) others) (e n (omega arith))
    in
    rw (more, take-add (8 * n) 8 a, take-add (8 * n) 8 b, before, last)

-- ---- zeros, a word at a time

pub zeros_number : (l : List ℕ) → all (eqb 0) l ≡ eqb (low_first l) 0
unfolding all low_first
zeros_number [] = refl
zeros_number (b ∷ l) =
    rw (zeros_number l)
    (same_test (eqb 0 b && eqb (low_first l) 0) (eqb (b + 256 * low_first l) 0)
    (λ e. eq-eqb _ 0 (both (eqb-true 0 b (and_left (eqb 0 b) (eqb (low_first l) 0) e)) (eqb-true (low_first l) 0 (and_right (eqb 0 b) (eqb (low_first l) 0) e))))
    (λ e. and_both (eq-eqb 0 b (first (eqb-true _ 0 e))) (eq-eqb (low_first l) 0 (others (eqb-true _ 0 e)))))
  where
    both : 0 ≡ b → low_first l ≡ 0 → b + 256 * low_first l ≡ 0
    both p q = omega arith

    first : b + 256 * low_first l ≡ 0 → 0 ≡ b
    first e = omega arith

    others : b + 256 * low_first l ≡ 0 → low_first l ≡ 0
    others e = omega arith

-- the bytes of a word from the k-th on
word_shift : (k : ℕ) (l : List ℕ) → Bytes l → low_first (drop k l) ≡ low_first l / 2 ^ (8 * k)
unfolding low_first
word_shift zero l p = sym (div-one (low_first l))
word_shift (suc k) [] p = sym (zero-div (2 ^ (8 * suc k)))
word_shift (suc k) (b ∷ l) p =
    let eight_more : 8 * suc k ≡ 8 + 8 * k = omega arith in
    let rest : (b + 256 * low_first l) / 2 ^ 8 ≡ low_first l = omega (arith, p 0) in
    word_shift k l (λ i. p (suc i)) ∙ rw (eight_more, ← (shr-shr (b + 256 * low_first l) 8 (8 * k)), rest)

-- so many bytes from a place on, of which the first eight are a word
zeros_further : (l : List ℕ) (at n : ℕ) → all (eqb 0) (take (8 + n) (drop at l)) ≡ (eqb (word_of l at) 0 && all (eqb 0) (take n (drop (at + 8) l)))
unfolding word_of
zeros_further l at n =
    rw (take-add 8 n (drop at l), all_both (eqb 0) (take 8 (drop at l)) (take n (drop 8 (drop at l))), zeros_number (take 8 (drop at l)), drop-drop 8 at l)

-- ---- what stands behind a name

module _ (r : List ℕ) (p : Bytes r) where
  -- the word that the name ends in, and those behind it
  pub zeros_behind :
      (at s : ℕ) → name_at + name_size r ≡ at + s → s < 8 → at + 8 ≤ name_at + name_room
      → all (eqb 0) (after_name r) ≡ (eqb (word_of r at / 2 ^ (8 * s)) 0 && all (eqb 0) (take (name_at + name_room - (at + 8)) (drop (at + 8) r)))
  unfolding after_name_in word_of
  zeros_behind at s ends few h =
      let m : ℕ = name_at + name_room - (at + 8) in
      let counted : name_room - name_size r ≡ 8 - s + m = omega arith in
      let further : name_at + name_size r + (8 - s) ≡ at + 8 = omega arith in
      let eight : s + (8 - s) ≡ 8 = omega arith in
      let part : take (8 - s) (drop (name_at + name_size r) r) ≡ drop s (take 8 (drop at r)) =
      ap (λ n. take (8 - s) (drop n r)) ends
      ∙ ap (take (8 - s)) (sym (drop-drop s at r))
      ∙ sym (drop_take s (8 - s) (drop at r))
      ∙ ap (λ n. drop s (take n (drop at r))) eight
      in
      rw (
        counted,
        take-add (8 - s) m (drop (name_at + name_size r) r),
        drop-drop (8 - s) (name_at + name_size r) r,
        further,
        part,
        all_both (eqb 0) (drop s (take 8 (drop at r))) (take m (drop (at + 8) r)),
        zeros_number (drop s (take 8 (drop at r))),
        word_shift s (take 8 (drop at r)) (bytes_part r 8 at p),
      )

-- from a place in the room on: a word, and what stands behind it
pub zeros_on : (r : List ℕ) (at : ℕ) → at + 8 ≤ name_at + name_room → all (eqb 0) (take (name_at + name_room - at) (drop at r)) ≡ (eqb (word_of r at) 0 && all (eqb 0) (take (name_at + name_room - (at + 8)) (drop (at + 8) r)))
zeros_on r at h =
    let m : ℕ = name_at + name_room - (at + 8) in
    let counted : name_at + name_room - at ≡ 8 + m = omega arith in
    rw counted (zeros_further r at m)

-- behind it nothing of the room is left
pub zeros_ended : (r : List ℕ) (at : ℕ) → name_at + name_room ≤ at → all (eqb 0) (take (name_at + name_room - at) (drop at r)) ≡ true
unfolding all
zeros_ended r at h =
    let none : name_at + name_room - at ≡ 0 = omega arith in
    rw none

-- a name that fills its room
pub zeros_none : (r : List ℕ) → name_size r ≡ name_room → all (eqb 0) (after_name r) ≡ true
unfolding after_name_in all
zeros_none r e = rw e

-- ---- a name in its room

-- one that ends in the first word
pub short_padded :
    (r : List ℕ) → Bytes r → 1 ≤ name_size r → name_size r < 8 → word_of r name_at / 2 ^ (8 * name_size r) ≡ 0
    → all (eqb 0) (take (name_at + name_room - 9) (drop 9 r)) ≡ true → padded r ≡ true
unfolding padded
short_padded r p some few here behind =
    rw (between_in 1 name_room (name_size r) some (omega arith), zeros_behind r p name_at (name_size r) refl few (omega arith), eq-eqb _ 0 here) behind

begins : (test : ℕ → Bool) (n : ℕ) (r : List ℕ) → 1 ≤ n → 2 ≤ length r → starts test (take n (drop 1 r)) ≡ test (get_or r 1 0)
unfolding starts
begins test zero r p q = absurd (omega arith)
begins test (suc n) [] p q = absurd (omega arith)
begins test (suc n) (size ∷ []) p q = absurd (omega arith)
begins test (suc n) (size ∷ b ∷ r) p q = refl

-- the first bytes of a name and zeros, as a number, are those of the name
zeros_taken : (k n : ℕ) → low_first (take n (replicate k 0)) ≡ 0
unfolding low_first
zeros_taken zero zero = refl
zeros_taken zero (suc n) = refl
zeros_taken (suc k) zero = refl
zeros_taken (suc k) (suc n) = rw (zeros_taken k n)

taken_number : (n : ℕ) (l : List ℕ) (k : ℕ) → low_first (take n (l ++ replicate k 0)) ≡ low_first (take n l)
unfolding low_first
taken_number zero l k = refl
taken_number (suc n) [] k = zeros_taken k (suc n)
taken_number (suc n) (b ∷ l) k = rw (taken_number n l k)

module _ (r : List ℕ) (long : length r ≡ row_size) (p : padded r ≡ true) where
  pub size_most : name_size r ≤ name_room
  unfolding padded between
  size_most = leb-true (name_size r) name_room (and_right (leb 1 (name_size r)) (leb (name_size r) name_room) (and_left (between 1 name_room (name_size r)) (all (eqb 0) (after_name r)) p))

  pub name_bytes : length (name r) ≡ name_size r
  name_bytes = name_length r long size_most

  -- a name has at least one byte
  size_least : 1 ≤ name_size r
  unfolding padded
  size_least = between_from 1 name_room (name_size r) (and_left _ (all (eqb 0) (after_name r)) p)

  pub name_some : name r ≡ [] → ⊥
  name_some e = omega (arith, size_least, name_bytes, ap length e)

  -- the first stands after the size
  pub name_starts : (test : ℕ → Bool) → starts test (name r) ≡ test (get_or r name_at 0)
  unfolding name
  name_starts test = begins test (name_size r) r size_least (omega (arith, long))

  after_zeros : take (name_room - name_size r) (drop (1 + name_size r) r) ≡ replicate (name_room - name_size r) 0
  unfolding padded after_name_in
  after_zeros =
      let counted : length (after_name r) ≡ name_room - name_size r = simp (length-take, length-drop) (omega (arith, size_most)) in
      zeros_only (after_name r) (and_right (between 1 name_room (name_size r)) (all (eqb 0) (after_name r)) p) ∙ ap (λ k. replicate k 0) counted

  -- the room is the name and zeros
  pub room_name : take name_room (drop 1 r) ≡ name r ++ replicate (name_room - name_size r) 0
  unfolding name
  room_name =
      let n : ℕ = name_size r in
      let whole : name_room ≡ n + (name_room - n) = omega (arith, size_most) in
      ap (λ k. take k (drop 1 r)) whole ∙ take-add n (name_room - n) (drop 1 r) ∙ ap (λ l. name r ++ l) (ap (take (name_room - n)) (drop-drop n 1 r) ∙ after_zeros)

  name_room_of : name r ≡ take (name_size r) (take name_room (drop 1 r))
  unfolding name
  name_room_of = rw (take-take (name_size r) name_room (drop 1 r) size_most)

  -- its first word is that of the name
  pub first_word : word_of r name_at ≡ low_first (take 8 (name r))
  unfolding word_of
  first_word =
      ap low_first (sym (take-take 8 name_room (drop 1 r) (omega arith)) ∙ ap (take 8) room_name) ∙ taken_number 8 (name r) (name_room - name_size r)

-- a word of the room
room_word : (r : List ℕ) (k : ℕ) → k < 4 → word_of r (name_at + 8 * k) ≡ word_of (take name_room (drop 1 r)) (8 * k)
unfolding word_of
room_word r k h =
    let n : ℕ = name_room - 8 * k in
    let whole : 8 * k + n ≡ name_room = omega arith in
    ap low_first
    (ap (take 8) (sym (drop-drop (8 * k) 1 r))
    ∙ sym (take-take 8 n (drop (8 * k) (drop 1 r)) (omega arith))
    ∙ ap (take 8) (sym (drop_take (8 * k) n (drop 1 r)) ∙ ap (λ m. drop (8 * k) (take m (drop 1 r))) whole))

-- ---- two names by the words of their rooms

-- a room has four
pub each_of_four : (P : ℕ → Type 0) → P 0 → P 1 → P 2 → P 3 → (k : ℕ) → k < 4 → P k
each_of_four P p q r s zero h = p
each_of_four P p q r s (suc zero) h = q
each_of_four P p q r s (suc (suc zero)) h = r
each_of_four P p q r s (suc (suc (suc zero))) h = s
each_of_four P p q r s (suc (suc (suc (suc k)))) h = absurd (omega arith)

module _ (r q : List ℕ) (r_long : length r ≡ row_size) (q_long : length q ≡ row_size) (r_padded : padded r ≡ true) (q_padded : padded q ≡ true) where
  -- another word is another name
  pub words_apart : (k : ℕ) → k < 4 → (word_of r (name_at + 8 * k) ≡ word_of q (name_at + 8 * k) → ⊥) → same (name r) (name q) ≡ false
  words_apart k h differ =
      not_same (name r) (name q)
      (λ e.
      let sizes : name_size r ≡ name_size q = cc (name_bytes r r_long r_padded, name_bytes q q_long q_padded) in
      let rooms : take name_room (drop 1 r) ≡ take name_room (drop 1 q) = cc (room_name r r_long r_padded, room_name q q_long q_padded) in
      differ (room_word r k h ∙ ap (λ l. word_of l (8 * k)) rooms ∙ sym (room_word q k h)))

  -- with the same words the sizes decide
  pub sizes_decide : Bytes r → Bytes q → ((k : ℕ) → k < 4 → word_of r (name_at + 8 * k) ≡ word_of q (name_at + 8 * k)) → same (name r) (name q) ≡ eqb (name_size r) (name_size q)
  unfolding word_of
  sizes_decide r_bytes q_bytes words =
      same_test _ _
      (λ e. eq-eqb _ _ (sym (name_bytes r r_long r_padded) ∙ ap length (same_equal (name r) (name q) e) ∙ name_bytes q q_long q_padded))
      (λ e.
      let sizes : name_size r ≡ name_size q = eqb-true (name_size r) (name_size q) e in
      let names : name r ≡ name q = cc (name_room_of r r_long r_padded, name_room_of q q_long q_padded, rooms) in
      rw names (same_refl (name q)))
    where
      here : (l : List ℕ) → length l ≡ row_size → 8 * 4 ≤ length (drop 1 l)
      here l long = simp length-drop (omega arith)

      bytes_behind : (l : List ℕ) → Bytes l → Bytes (drop 1 l)
      bytes_behind l p k = rw (get_or-drop 1 l k 0) (p (1 + k))

      rooms : take name_room (drop 1 r) ≡ take name_room (drop 1 q)
      rooms =
          words_only 4 (drop 1 r) (drop 1 q) (here r r_long) (here q q_long) (bytes_behind r r_bytes) (bytes_behind q q_bytes)
          (λ k h. ap (λ l. low_first (take 8 l)) (drop-drop (8 * k) 1 r) ∙ words k h ∙ sym (ap (λ l. low_first (take 8 l)) (drop-drop (8 * k) 1 q)))

-- ---- a name that is looked for, by its first word

module _ (r wanted : List ℕ) (long : length r ≡ row_size) (p : padded r ≡ true) (r_bytes : Bytes r) (bytes : Bytes wanted) where
  -- the word, the size, and the bytes behind the word
  pub told_by_word :
      same (name r) wanted
      ≡ (eqb (word_of r name_at) (low_first (take 8 wanted)) && (eqb (name_size r) (length wanted) && same (drop 8 (name r)) (drop 8 wanted)))
  unfolding name
  told_by_word = same_test _ _ apart together
    where
      behind : Bool
      behind = same (drop 8 (name r)) (drop 8 wanted)

      sizes : Bool
      sizes = eqb (name_size r) (length wanted)

      first : Bool
      first = eqb (word_of r name_at) (low_first (take 8 wanted))

      apart : same (name r) wanted ≡ true → (first && (sizes && behind)) ≡ true
      apart e =
          let names : name r ≡ wanted = same_equal (name r) wanted e in
          and_both (eq-eqb _ _ (first_word r long p ∙ ap (λ l. low_first (take 8 l)) names))
          (and_both (eq-eqb _ _ (sym (name_bytes r long p) ∙ ap length names)) (rw names (same_refl (drop 8 wanted))))

      together : (first && (sizes && behind)) ≡ true → same (name r) wanted ≡ true
      together e =
          let others = and_right first (sizes && behind) e in
          let counted : length (name r) ≡ length wanted = name_bytes r long p ∙ eqb-true (name_size r) (length wanted) (and_left sizes behind others) in
          let number : low_first (take 8 (name r)) ≡ low_first (take 8 wanted) = sym (first_word r long p) ∙ eqb-true _ _ (and_left first (sizes && behind) e) in
          let low : take 8 (name r) ≡ take 8 wanted =
          low_first_only _ _ (length-take 8 (name r) ∙ ap (min 8) counted ∙ sym (length-take 8 wanted)) (bytes_part (name r) 8 0 name_byte) (bytes_part wanted 8 0 bytes) number in
          let high : drop 8 (name r) ≡ drop 8 wanted = same_equal _ _ (and_right sizes behind others) in
          let names : name r ≡ wanted = sym (take-append-drop 8 (name r)) ∙ cc (low, high) ∙ take-append-drop 8 wanted in
          rw names (same_refl wanted)
        where
          name_byte : Bytes (name r)
          name_byte = bytes_part r (name_size r) 1 r_bytes

  -- up to eight bytes have none behind them
  pub no_longer : name_size r ≤ 8 → length wanted ≤ 8 → same (drop 8 (name r)) (drop 8 wanted) ≡ true
  no_longer few little = rw (drop_of_length-le (name r) {i = 8} (omega (arith, name_bytes r long p)), drop_of_length-le wanted {i = 8} little) (same_refl [])

-- the bytes of a longer name behind its first word
pub behind_word : (r : List ℕ) → 8 ≤ name_size r → drop 8 (name r) ≡ take (name_size r - 8) (drop 9 r)
unfolding name
behind_word r h =
    let whole : name_size r ≡ 8 + (name_size r - 8) = omega arith in
    ap (λ n. drop 8 (take n (drop 1 r))) whole ∙ drop_take 8 (name_size r - 8) (drop 1 r) ∙ ap (take (name_size r - 8)) (drop-drop 8 1 r)
