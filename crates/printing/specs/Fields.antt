-- What is printed for an answer, from the digits that were found. Assumes nothing.
use Rattle.std.specs.Prelude.{◌≡◌, List, [], ◌∷◌, ◌++◌, length, set}
use Rattle.std.proofs.Common.{sym, ◌∙◌, arith, length-set}
use Rattle.std.proofs.Math.Path.{ap, ap₂}
use Prim.Native.Nat.{ℕ, ◌+◌, ◌≤◌, ◌<◌}
use Rattle.std.proofs.Math.ListN.{length-append}
use Rattle.rules.specs.declared.Answer.{Answer}
use Rattle.rules.specs.WriterAndShiftTotal.{decimals, sign_byte, whole_digits}
use Rattle.writing.specs.declared.digits.Decimal.{Decimal}
use Rattle.printing.specs.declared.Line.{Line}
use Rattle.writing.specs.Digits.{decimals_length}
use Rattle.writing.specs.Laid.{laid, laid_then, laid_on, laid_byte}
use Rattle.printing.specs.Lines.{newline}
use Rattle.printing.specs.Printed.{space, field, printed}

-- digits, and a byte behind them
unfoldable pub figures : Decimal → ℕ → List ℕ
figures d behind = decimals d.count d.number ++ behind ∷ []

abbrev pub signed_figures : ℕ → Decimal → ℕ → List ℕ
signed_figures sign d behind = sign ∷ space ∷ figures d behind

unfoldable pub line_figures : Line → List ℕ
line_figures l = figures l.number space ++ figures l.position space ++ signed_figures l.sign l.seconds space ++ figures l.nanoseconds newline

abbrev pub line_size : Line → ℕ
line_size l = l.number.count + l.position.count + l.seconds.count + l.nanoseconds.count + 6

pub figures_length : (d : Decimal) (behind : ℕ) → length (figures d behind) ≡ d.count + 1
unfolding figures
figures_length d behind = length-append (decimals d.count d.number) (behind ∷ []) ∙ ap (λ n. n + 1) (decimals_length d.count d.number)

pub figures_laid :
    (buffer : List ℕ) (place : ℕ) (d : Decimal) (behind : ℕ)
    → place + (d.count + 1) ≤ length buffer
    → set (laid buffer place (decimals d.count d.number)) (place + d.count) behind ≡ laid buffer place (figures d behind)
unfolding figures
figures_laid buffer place d behind h =
    laid_byte buffer place (place + d.count) (decimals d.count d.number) behind
    (ap (λ n. place + n) (sym (decimals_length d.count d.number)))
    (omega arith)

pub signed_laid :
    (buffer : List ℕ) (place sign : ℕ) (bytes : List ℕ)
    → place + 1 < length buffer
    → laid (set (set buffer place sign) (place + 1) space) (place + 1 + 1) bytes ≡ laid buffer place (sign ∷ space ∷ bytes)
signed_laid buffer place sign bytes h =
    laid_on (set buffer place sign) (place + 1) space bytes (omega (arith, length-set buffer place sign))
    ∙ laid_on buffer place sign (space ∷ bytes) (omega arith)

module _ (l : Line) where
  first : List ℕ
  first = figures l.number space

  second : List ℕ
  second = figures l.position space

  third : List ℕ
  third = signed_figures l.sign l.seconds space

  last : List ℕ
  last = figures l.nanoseconds newline

  two_size : length (first ++ second) ≡ l.number.count + 1 + (l.position.count + 1)
  unfolding first second
  two_size = length-append first second ∙ ap₂ ◌+◌ (figures_length l.number space) (figures_length l.position space)

  three_size : length (first ++ second ++ third) ≡ l.number.count + 1 + (l.position.count + 1) + (l.seconds.count + 3)
  unfolding third
  three_size = length-append (first ++ second) third ∙ ap₂ ◌+◌ two_size (omega (arith, figures_length l.seconds space))

  pub line_length : length (line_figures l) ≡ line_size l
  unfolding line_figures first second third last
  line_length = omega (arith, length-append (first ++ second ++ third) last, three_size, figures_length l.nanoseconds newline)

  -- one behind the other
  pub line_laid :
      (buffer : List ℕ) (place : ℕ) {p q r : ℕ}
      → place ≤ length buffer
      → p ≡ place + (l.number.count + 1)
      → q ≡ p + (l.position.count + 1)
      → r ≡ q + (l.seconds.count + 3)
      → laid (laid (laid (laid buffer place (figures l.number space)) p (figures l.position space)) q (signed_figures l.sign l.seconds space)) r (figures l.nanoseconds newline)
      ≡ laid buffer place (line_figures l)
  unfolding line_figures first second third last
  line_laid buffer place {p} {q} {r} h at_second at_third at_last =
      ap (λ b. laid (laid b q third) r last) (laid_then buffer place p first second (omega (arith, figures_length l.number space)) h)
      ∙ ap (λ b. laid b r last) (laid_then buffer place q (first ++ second) third (omega (arith, two_size)) h)
      ∙ laid_then buffer place r (first ++ second ++ third) last (omega (arith, three_size)) h

  -- the digits found are those of what is printed
  pub line_is :
      (a : Answer)
      → whole_digits a.number ≡ decimals l.number.count l.number.number
      → whole_digits a.position ≡ decimals l.position.count l.position.number
      → l.sign ≡ sign_byte a.length.negative
      → whole_digits a.length.seconds ≡ decimals l.seconds.count l.seconds.number
      → whole_digits a.length.nanoseconds ≡ decimals l.nanoseconds.count l.nanoseconds.number
      → line_figures l ≡ printed a
  unfolding line_figures figures printed field
  line_is a n p e s f = rw (e, n, p, s, f)
