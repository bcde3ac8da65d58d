-- `card::row::same_name` meets its contract: another word is another name, and with the same words the sizes decide. Assumes nothing.
use Rattle.std.proofs.Common.{◌≡◌, Bool, true, false, ◌&&◌, List, ℕ, ◌+◌, ◌*◌, ◌<◌, eqb, length, refl, ap, sym, ◌∙◌, arith, eqb-true}
use Rattle.std.proofs.lemmas.Grind.{common_steps}
use Rattle.std.proofs.lemmas.Bool.{false≢true}
use Rattle.std.proofs.lemmas.Bool.Decides.{nat_tests}
use Rattle.rules.specs.Common.{same}
use Rattle.rules.specs.Laws.Lists.{Bytes}
use Rattle.rules.specs.SettingsAndUnitTable.{row_size, low_first, name_size, name}
use Rattle.rows.specs.Named.{padded}
use Rattle.rows.specs.Laws.Rooms.{word_of, each_of_four, words_apart, sizes_decide}
use Rattle.card.proofs.row.same_name.Goals as goal

-- the four words, and then the sizes
words_decide :
    (r q : List ℕ) → length r ≡ row_size → length q ≡ row_size → padded r ≡ true → padded q ≡ true → Bytes r → Bytes q
    → same (name r) (name q)
    ≡ (eqb (word_of r 1) (word_of q 1) && (eqb (word_of r 25) (word_of q 25) && (eqb (word_of r 9) (word_of q 9) && (eqb (word_of r 17) (word_of q 17) && eqb (name_size r) (name_size q)))))
words_decide r q r_long q_long r_padded q_padded r_bytes q_bytes =
    go (eqb (word_of r 1) (word_of q 1)) (eqb (word_of r 25) (word_of q 25)) (eqb (word_of r 9) (word_of q 9)) (eqb (word_of r 17) (word_of q 17)) refl refl refl refl
  where
    apart : (k : ℕ) → k < 4 → eqb (word_of r (1 + 8 * k)) (word_of q (1 + 8 * k)) ≡ false → same (name r) (name q) ≡ false
    apart k h e = words_apart r q r_long q_long r_padded q_padded k h (λ is. false≢true (sym e ∙ grind (arith, common_steps, nat_tests)))

    go :
        (first last second third : Bool)
        → eqb (word_of r 1) (word_of q 1) ≡ first → eqb (word_of r 25) (word_of q 25) ≡ last → eqb (word_of r 9) (word_of q 9) ≡ second → eqb (word_of r 17) (word_of q 17) ≡ third
        → same (name r) (name q) ≡ (first && (last && (second && (third && eqb (name_size r) (name_size q)))))
    go false last second third e f g h = apart 0 (omega arith) e
    go true false second third e f g h = apart 3 (omega arith) f
    go true true false third e f g h = apart 1 (omega arith) g
    go true true true false e f g h = apart 2 (omega arith) h
    go true true true true e f g h =
        sizes_decide r q r_long q_long r_padded q_padded r_bytes q_bytes
        (each_of_four (λ k. word_of r (1 + 8 * k) ≡ word_of q (1 + 8 * k)) (eqb-true _ _ e) (eqb-true _ _ g) (eqb-true _ _ h) (eqb-true _ _ f))

pub returns-then-word_at-4 : goal.returns-then-word_at-4
unfolding word_of name_size
returns-then-word_at-4 c =
    let all = words_decide c.args.row.now c.args.other.now c.requires.row_len.0 c.requires.other_len.0 c.requires.row_len.1 c.requires.other_len.1 (λ k. (c.type_inv.row k).fits) (λ k. (c.type_inv.other k).fits) in
    grind (arith, common_steps, nat_tests, all)

pub returns-else-word_at-4 : goal.returns-else-word_at-4
unfolding word_of name_size
returns-else-word_at-4 c =
    let all = words_decide c.args.row.now c.args.other.now c.requires.row_len.0 c.requires.other_len.0 c.requires.row_len.1 c.requires.other_len.1 (λ k. (c.type_inv.row k).fits) (λ k. (c.type_inv.other k).fits) in
    grind (arith, common_steps, nat_tests, all)
