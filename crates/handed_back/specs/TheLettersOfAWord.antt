-- The letters of a word, one after another: the step gets past all of them, or is refused at the first that is not right. Assumes nothing.
use Rattle.std.specs.Prelude.{◌≡◌, true, not, ℕ, suc, ◌+◌, ◌≤◌, length}
use Rattle.std.proofs.Math.Path.{refl, ap}
use Rattle.std.proofs.Common.{sym, ◌∙◌, zero-le, suc-le-suc, add-zero, arith}
use Rattle.std.proofs.lemmas.Bool.{false≢true, not-true}
use mathlib.Core.List.{List, [], ◌∷◌, ◌++◌}
use Rattle.rules.specs.declared.Refusal.{Refusal}
use Rattle.rules.specs.declared.Refusal.TheVariants.{InfinityByte, InfinityEnds}
use Rattle.rules.specs.Common.{sees, starts}
use Rattle.rules.specs.NumbersHandedBack.{got, refused}
use Rattle.rules.specs.ReadingOnePart.{same_letter, prefix, letters_step}
use Rattle.rules.proofs.Laws.Choices.{and_left, and_right, if_then, if_else}
use Rattle.rules.proofs.Laws.Outcomes.{All, all_got, all_refused, all_map, all_if, Refused, not_refused, refused_by, refused_map, refused_if}

-- ---- what the step finds

-- all of them are right, up to the end
pub letters_got : (inf : ℕ) (word rest : List ℕ) (place : ℕ) → All (λ end. (prefix word rest ≡ true) × (end ≡ place + length word)) (letters_step inf word rest place)
unfolding letters_step prefix
letters_got inf [] rest place = all_got (refl, sym (add-zero place))
letters_got inf (w ∷ word) [] place = all_refused
letters_got inf (w ∷ word) (b ∷ rest) place =
    all_if (λ same. all_map (letters_got inf word rest (suc place)) (λ end (right, e). (rw (same, right), omega arith))) (λ _. all_refused)

-- or behind the right ones stands another byte than the next letter, or none
pub data Breaks (inf place : ℕ) (right : List ℕ) (w : ℕ) (rest : List ℕ) : Refusal → Type 0 where
  another_byte : sees (λ b. not (same_letter w b)) rest (length right) ≡ true → Breaks inf place right w rest (InfinityByte (place + length right))
  no_byte : length rest ≤ length right → Breaks inf place right w rest (InfinityEnds inf)

pub record Broken (inf : ℕ) (word rest : List ℕ) (place : ℕ) (cause : Refusal) : Type 0 where
  pub right : List ℕ
  pub w : ℕ
  pub more : List ℕ
  pub split : word ≡ right ++ w ∷ more
  pub stand : prefix right rest ≡ true
  pub why : Breaks inf place right w rest cause

-- one right letter before them
one_more : {inf place w b : ℕ} {word rest : List ℕ} {cause : Refusal} → same_letter w b ≡ true → Broken inf word rest (suc place) cause → Broken inf (w ∷ word) (b ∷ rest) place cause
unfolding prefix sees
one_more {inf} {place} {w} {b} {word} {rest} {cause} same h = record {
  right = w ∷ h.right;
  w = h.w;
  more = h.more;
  split = ap (λ l. w ∷ l) h.split;
  stand = rw (same, h.stand);
  why = go h.why;
}
  where
    go : {cause : Refusal} → Breaks inf (suc place) h.right h.w rest cause → Breaks inf place (w ∷ h.right) h.w (b ∷ rest) cause
    go (another_byte other) =
        let at : suc place + length h.right ≡ place + suc (length h.right) = omega arith in
        rw at (another_byte other)
    go (no_byte short) = no_byte (suc-le-suc short)

-- none before them
at_once : {inf place w : ℕ} {word rest : List ℕ} {cause : Refusal} → Breaks inf place [] w rest cause → Broken inf (w ∷ word) rest place cause
unfolding prefix
at_once {w = w} {word = word} breaks = record { right = []; w = w; more = word; split = refl; stand = refl; why = breaks }

pub letters_broken : (inf : ℕ) (word rest : List ℕ) (place : ℕ) → Refused (Broken inf word rest place) (letters_step inf word rest place)
unfolding letters_step sees starts
letters_broken inf [] rest place = not_refused
letters_broken inf (w ∷ word) [] place = refused_by (at_once (no_byte zero-le))
letters_broken inf (w ∷ word) (b ∷ rest) place =
    refused_if (λ same. refused_map (letters_broken inf word rest (suc place)) (λ cause h. one_more same h))
    (λ other. let breaks : Breaks inf place [] w (b ∷ rest) (InfinityByte (place + 0)) = another_byte (ap not other) in refused_by (at_once (rw add-zero at breaks)))

-- ---- and what it comes to

letter_first : (w b : ℕ) (word rest : List ℕ) → prefix (w ∷ word) (b ∷ rest) ≡ true → (same_letter w b ≡ true) × (prefix word rest ≡ true)
unfolding prefix
letter_first w b word rest e = (and_left (same_letter w b) (prefix word rest) e, and_right (same_letter w b) (prefix word rest) e)

-- all of them are right
pub letters_all : (inf : ℕ) (word rest : List ℕ) (place : ℕ) → prefix word rest ≡ true → letters_step inf word rest place ≡ got (place + length word)
unfolding letters_step prefix
letters_all inf [] rest place e = ap got (omega arith)
letters_all inf (w ∷ word) [] place e = absurd (false≢true e)
letters_all inf (w ∷ word) (b ∷ rest) place e =
    let (same, others) = letter_first w b word rest e in
    if_then _ _ same ∙ letters_all inf word rest (suc place) others ∙ ap got (omega arith)

-- the first ones are, and behind them stands another byte, or none
module _ (inf w : ℕ) (more : List ℕ) where
  pub letters_wrong : (right rest : List ℕ) (place : ℕ) → prefix right rest ≡ true → sees (λ b. not (same_letter w b)) rest (length right) ≡ true → letters_step inf (right ++ w ∷ more) rest place ≡ refused (InfinityByte (place + length right))
  unfolding letters_step prefix sees starts
  letters_wrong [] [] place e other = absurd (false≢true other)
  letters_wrong [] (b ∷ rest) place e other = if_else _ _ (not-true _ other) ∙ ap (λ p. refused (InfinityByte p)) (omega arith)
  letters_wrong (r ∷ right) [] place e other = absurd (false≢true e)
  letters_wrong (r ∷ right) (b ∷ rest) place e other =
      let (same, others) = letter_first r b right rest e in
      if_then _ _ same ∙ letters_wrong right rest (suc place) others other ∙ ap (λ p. refused (InfinityByte p)) (omega arith)

  pub letters_short : (right rest : List ℕ) (place : ℕ) → prefix right rest ≡ true → length rest ≤ length right → letters_step inf (right ++ w ∷ more) rest place ≡ refused (InfinityEnds inf)
  unfolding letters_step prefix
  letters_short [] [] place e short = refl
  letters_short [] (b ∷ rest) place e short = absurd (omega arith)
  letters_short (r ∷ right) [] place e short = absurd (false≢true e)
  letters_short (r ∷ right) (b ∷ rest) place e short =
      let (same, others) = letter_first r b right rest e in
      if_then _ _ same ∙ letters_short right rest (suc place) others (omega arith)
