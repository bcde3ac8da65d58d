-- What chains of the library say, in the words of document 01: a test of each element, and the parts of one size that a list is cut into.
-- Assumes nothing.
use Rattle.std.specs.Prelude.{◌≡◌, Bool, true, false, ◌&&◌, List, [], ◌∷◌, ◌++◌, ℕ, zero, suc, ◌+◌, ◌*◌, ◌-◌, ◌/◌, ◌<◌, ◌≤◌, min, leb, length, take, drop}
use Rattle.std.specs.List.{list_all}
use Rattle.std.specs.Slice.Iter.{chunks_rest, chunks_size, chunks_steps, chunks_exact_rest, chunks_exact_size, chunks_exact_steps, chunk_count}
use Rattle.std.proofs.Common.{refl, sym, ap, ◌∙◌, subst, arith, rules, take-add, take_all, drop-drop, length-append, append-nil, zero-mul, add-one, leb-true, leb-false}
use Rattle.std.proofs.lemmas.Iterator.{YieldsList}
use Rattle.std.proofs.lemmas.Iterator.Splits.{YieldsList-from_shown_while}
use Rattle.std.proofs.Math.Nat.{div-eq_of_lt, add-div_right}
use Rattle.std.proofs.Math.Seq.{take-append_seam, drop-append_seam}
use Rattle.std.proofs.lemmas.List.{nil_from_length}
use Rattle.std.proofs.lemmas.List.Recursion.{same_from_clauses}
use Rattle.rules.specs.Common.{all}
use Rattle.rules.proofs.Laws.Lists.{all_both}

-- ---- a test of each element

pub all_listed : {A : Type 0} (test : A → Bool) (l : List A) → list_all test l ≡ all test l
unfolding all
all_listed test l = same_from_clauses (list_all test) (all test) (λ x more. test x && more) refl (λ _ _. refl) (λ _ _. refl) l

-- ---- parts of one size

-- the first so many parts
abbrev pub cut : {A : Type 0} → ℕ → ℕ → List A → List (List A)
cut zero size l = []
cut (suc n) size l = take size l ∷ cut n size (drop size l)

-- the first part, and those behind it
cut_first : {A : Type 0} (n : ℕ) {size : ℕ} {l part : List A} (rest : List A) → l ≡ part ++ rest → length part ≡ size → cut (suc n) size l ≡ part ∷ cut n size rest
cut_first n {part = part} rest parts long = rw (parts, ← long, take-append_seam part rest, drop-append_seam part rest)

-- what is asked of each part, if that is a test of its elements, says it of them all
pub all_cut :
    {A : Type 0} (test : A → Bool) (asked : List A → Bool) (size : ℕ)
    → ((l : List A) → asked (take size l) ≡ all test (take size l))
    → (n : ℕ) (l : List A) → list_all asked (cut n size l) ≡ all test (take (n * size) l)
unfolding all
all_cut test asked size each zero l = rw zero-mul
all_cut test asked size each (suc n) l =
    let sized : suc n * size ≡ size + n * size = omega arith in
    rw (sized, take-add size (n * size) l, all_both test (take size l) (take (n * size) (drop size l)), each l, all_cut test asked size each n (drop size l))

-- a part more
counted : (size long more : ℕ) → 0 < size → long ≡ more + size → long / size ≡ suc (more / size)
counted size long more some e = rw (e, add-div_right more some, add-one)

pub YieldsList-from_chunks_exact : {A : Type 0} {s : _} (size : ℕ) (l : List A) → 0 < size → chunks_exact_size s ≡ size → chunks_exact_rest s ≡ l → YieldsList chunks_exact_steps (λ x. x.now) s (cut (length l / size) size l)
YieldsList-from_chunks_exact {A} {s} size l some sized left =
    subst (λ k. YieldsList chunks_exact_steps (λ x. x.now) s (cut (length k / size) size k)) left
    (YieldsList-from_shown_while chunks_exact_steps (λ x. x.now) (λ u. cut (length (chunks_exact_rest u) / size) size (chunks_exact_rest u)) (λ u. chunks_exact_size u ≡ size)
    (λ u t here step. let few : length (chunks_exact_rest u) / size ≡ 0 = div-eq_of_lt (omega (arith, step.1.0)) in rw few)
    (λ u x t here step.
    let parts : chunks_exact_rest u ≡ x.now ++ chunks_exact_rest t = step.1.0 in
    let long : length x.now ≡ size = step.1.1 ∙ here in
    let more : length (chunks_exact_rest u) / size ≡ suc (length (chunks_exact_rest t) / size) = counted size (length (chunks_exact_rest u)) (length (chunks_exact_rest t)) some (rw (parts, length-append) (omega (arith, long))) in
    (step.0 ∙ here, rw more (cut_first _ (chunks_exact_rest t) parts long)))
    s sized)

-- the last part may be shorter
abbrev pub parts_of : ℕ → ℕ → ℕ
parts_of size long = (long + (size - 1)) / size

pub YieldsList-from_chunks : {A : Type 0} {s : _} (size : ℕ) (l : List A) → 0 < size → chunks_size s ≡ size → chunks_rest s ≡ l → YieldsList chunks_steps (λ x. x.now) s (cut (parts_of size (length l)) size l)
YieldsList-from_chunks {A} {s} size l some sized left =
    subst (λ k. YieldsList chunks_steps (λ x. x.now) s (cut (parts_of size (length k)) size k)) left
    (YieldsList-from_shown_while chunks_steps (λ x. x.now) (λ u. cut (parts_of size (length (chunks_rest u))) size (chunks_rest u)) (λ u. chunks_size u ≡ size)
    (λ u t here step. let few : parts_of size (length (chunks_rest u)) ≡ 0 = div-eq_of_lt (omega (arith, step.1.0)) in rw few)
    (λ u x t here step. (step.0 ∙ here, next_chunk size (chunks_rest u) x.now (chunks_rest t) some step.1.0 (rw here at step.1.1) step.1.2))
    s sized)
  where
    next_chunk :
        {A : Type 0} (size : ℕ) (l part rest : List A) → 0 < size → l ≡ part ++ rest → length part ≡ min size (length l) → 0 < length l
        → cut (parts_of size (length l)) size l ≡ part ∷ cut (parts_of size (length rest)) size rest
    next_chunk size l part rest some parts long more = go (leb size (length l)) refl
      where
        both : length l ≡ length part + length rest
        both = ap length parts ∙ length-append part rest

        go : (b : Bool) → leb size (length l) ≡ b → cut (parts_of size (length l)) size l ≡ part ∷ cut (parts_of size (length rest)) size rest
        go true e =
            let whole : length part ≡ size = omega (arith, leb-true size (length l) e, long) in
            let counted_too : parts_of size (length l) ≡ suc (parts_of size (length rest)) = counted size (length l + (size - 1)) (length rest + (size - 1)) some (omega (arith, both, whole)) in
            rw counted_too (cut_first (parts_of size (length rest)) rest parts whole)
        go false e =
            let all_of_it : length part ≡ length l = omega (arith, leb-false size (length l) e, long) in
            let none : length rest ≡ 0 = omega (arith, both, all_of_it) in
            let no_part : (length l - 1) / size ≡ 0 = div-eq_of_lt (omega (arith, leb-false size (length l) e)) in
            let no_more : parts_of size (length rest) ≡ 0 = div-eq_of_lt (omega (arith, none)) in
            let one_part : parts_of size (length l) ≡ suc 0 = counted size (length l + (size - 1)) (length l - 1) some (omega arith) ∙ ap suc no_part in
            rw (one_part, no_more, take_all size l (omega (arith, leb-false size (length l) e))) (ap (λ k. k ∷ []) (parts ∙ rw (nil_from_length rest none, append-nil)))
