-- Laws of names: tests of their bytes, and names led by `e`. Assumes nothing.
use Rattle.std.specs.Prelude.{◌≡◌, refl, Bool, true, false, not, ◌&&◌, ◌||◌, List, [], ◌∷◌, ℕ, suc, ◌-◌, ◌<◌, eqb, length, get_or, take, drop}
use Rattle.std.proofs.Common.{sym, ap, ◌∙◌, arith, length-drop, take-append-drop, take_all}
use Rattle.rules.specs.declared.ByteSet.{ByteSet}
use Rattle.rules.specs.Common.{when◌then◌else◌, all, between}
use Rattle.rules.specs.SettingsAndUnitTable.{LETTER, is, row_size, name_at, name_size, name, led_by_e, lower}
use Rattle.rules.proofs.Laws.Choices.{and_both, all_first, all_others}
use Rattle.rules.specs.Laws.Lists.{Bytes}
use Rattle.rules.proofs.Laws.Lists.{all_both, all_alike}
use Rattle.words.specs.LowFirst.{bytes_part}
use Rattle.settings.specs.Sets.{passes}
use Rattle.settings.specs.Laws.Sets.{runs, agree}
use Rattle.rows.specs.Named.{padded}
use Rattle.rows.specs.Laws.Rooms.{name_starts}
use Rattle.card.specs.Fields.{Letterless}
use Rattle.card.specs.Laws.Unnameable.{outside}

-- tests that agree at each byte agree at a name
pub names_alike : (test other : ℕ → Bool) → ((b : ℕ) → b < 256 → test b ≡ other b) → (r : List ℕ) → Bytes r → all test (name r) ≡ all other (name r)
unfolding name
names_alike test other alike r p = all_alike test other (name r) (λ i. alike (get_or (name r) i 0) (bytes_part r (name_size r) 1 p i))

-- letters are outside a set without letters
pub letters_outside : (set : ByteSet) → Letterless set → (l : List ℕ) → Bytes l → all (is LETTER) l ≡ true → all (passes set false) l ≡ true
unfolding all
letters_outside set none [] p letters = refl
letters_outside set none (b ∷ l) p letters =
    and_both (outside set b ∙ ap not (none b (p 0) (all_first (is LETTER) b l letters)))
    (letters_outside set none l (λ k. p (suc k)) (all_others (is LETTER) b l letters))

-- ---- names led by `e`

pub led_byte : (b : ℕ) → b < 256 → eqb 101 (lower b) ≡ (eqb b 101 || eqb b 69)
unfolding runs lower between when◌then◌else◌
led_byte b h = agree (λ b. eqb 101 (lower b)) (λ b. eqb b 101 || eqb b 69) 0 256 refl b (omega arith) h

pub led_first : (r : List ℕ) → length r ≡ row_size → padded r ≡ true → Bytes r → led_by_e (name r) ≡ (eqb (get_or r name_at 0) 101 || eqb (get_or r name_at 0) 69)
unfolding led_by_e
led_first r long p bytes = name_starts r long p (λ b. eqb 101 (lower b)) ∙ led_byte (get_or r name_at 0) (bytes name_at)

-- ---- eight bytes of a name, and those behind them

module _ (test : ℕ → Bool) (l : List ℕ) where
  apart : all test l ≡ (all test (take 8 l) && all test (drop 8 l))
  apart = ap (all test) (sym (take-append-drop 8 l)) ∙ all_both test (take 8 l) (drop 8 l)

  pub word_fails : all test (take 8 l) ≡ false → all test l ≡ false
  word_fails e = apart ∙ rw e

  pub word_passes : all test (take 8 l) ≡ true → all test l ≡ all test (take (length l - 8) (drop 8 l))
  word_passes e = apart ∙ rw (e, take_all (length l - 8) (drop 8 l) (simp length-drop (omega arith)))
