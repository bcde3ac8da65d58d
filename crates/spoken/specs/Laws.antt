-- Laws of the product of a spoken number. Assumes nothing.
use Rattle.std.specs.Prelude.{◌≡◌, Bool, ℕ, ◌+◌, ◌-◌, leb}
use Rattle.std.proofs.Math.Path.{refl}
use Rattle.std.proofs.Common.{sym, arith, le-leb, leb-true}
use Rattle.std.proofs.Math.Bool.{true, false}
use Rattle.rules.specs.declared.Multiplier.{Multiplier}
use Rattle.rules.specs.declared.SpokenRepr.{SpokenRepr}
use Rattle.rules.specs.declared.Refusal.{Refusal}
use Rattle.rules.specs.declared.Refusal.TheVariants.{OutOfRange}
use Rattle.rules.specs.NumbersHandedBack.{Outcome, got, refused, ◌>>=◌, ◌>>◌, unless}
use Rattle.rules.specs.SettingsAndUnitTable.{times, in_range}
use Rattle.rules.specs.Evaluation.{multiplied, spoken_multiplier}
use Rattle.rules.proofs.Laws.Outcomes.{Refused, not_got, not_refused, refused_then, refused_bind, refused_unless}
use Rattle.rules.specs.Laws.Powers.{net}
use Rattle.rules.proofs.Laws.Tests.{same_test}
use Rattle.spoken.specs.Products.{product, spoken_product}

-- ---- powers taken off each other

-- are as far apart
as_far : (a b x y k : ℕ) → leb (a - b + x) (b - a + y + k) ≡ leb (a + x) (b + y + k)
as_far a b x y k =
    same_test (leb (a - b + x) (b - a + y + k)) (leb (a + x) (b + y + k))
    (λ e. le-leb (a + x) (b + y + k) (omega (arith, leb-true (a - b + x) (b - a + y + k) e)))
    (λ e. le-leb (a - b + x) (b - a + y + k) (omega (arith, leb-true (a + x) (b + y + k) e)))

-- and leave as much
leave : (a b x y : ℕ) → a - b + x - (b - a + y) ≡ a + x - (b + y)
leave a b x y = omega arith

-- ---- one product

module _ (m n : Multiplier) where
  -- a product in range is handed on with its powers taken off each other, and one out of range is refused
  pub product_in : in_range (times m n) ≡ true → product (multiplied m n) ≡ got (net (times m n))
  unfolding multiplied product unless ◌>>◌
  product_in e = rw e

  pub product_out : in_range (times m n) ≡ false → product (multiplied m n) ≡ refused OutOfRange
  unfolding multiplied product unless ◌>>◌
  product_out e = rw e

  in_range_net : in_range (times (net m) n) ≡ in_range (times m n)
  unfolding in_range times net
  in_range_net = rw (as_far m.up m.down n.up n.down 32767, as_far m.down m.up n.down n.up 32768)

  net_times : net (times (net m) n) ≡ net (times m n)
  unfolding times net
  net_times = rw (leave m.up m.down n.up n.down, leave m.down m.up n.down n.up)

  -- what is handed on is as good a factor
  product_net : product (multiplied (net m) n) ≡ product (multiplied m n)
  unfolding multiplied product unless ◌>>◌
  product_net = rw in_range_net (go (in_range (times m n)))
    where
      go : (b : Bool) → product (unless OutOfRange b >> got (times (net m) n)) ≡ product (unless OutOfRange b >> got (times m n))
      go true = rw net_times
      go false = refl

-- ---- one after another: what is handed on is multiplied once more, and nothing follows a product out of range

module _ (n : Multiplier) where
  pub product_goes_on : (first : Outcome Multiplier) {m : Multiplier} → product first ≡ got m → product (multiplied m n) ≡ product (first >>= λ m. multiplied m n)
  unfolding product ◌>>=◌
  product_goes_on (got k) {m = m} e = let same : net k ≡ m = cc in rw (← same) (product_net k n)
  product_goes_on (refused first) {m = m} e = absurd (not_got first e)

-- nothing follows a product out of range
pub product_stops : (first : Outcome Multiplier) (next : Multiplier → Outcome Multiplier) {cause : Refusal} → product first ≡ refused cause → refused cause ≡ product (first >>= next)
unfolding product ◌>>=◌
product_stops (got k) next {cause = cause} e = absurd (not_got cause (sym e))
product_stops (refused first) next e = sym e

-- ---- a spoken number

multiplied_refused : (m n : Multiplier) → Refused (λ cause. cause ≡ OutOfRange) (multiplied m n)
unfolding multiplied
multiplied_refused m n = refused_then (unless OutOfRange (in_range (times m n))) (refused_unless OutOfRange (in_range (times m n)) (λ _. refl)) not_refused

module _ (d : SpokenRepr) where
  -- its product is refused for its range alone
  pub spoken_refused : Refused (λ cause. cause ≡ OutOfRange) (spoken_multiplier d)
  unfolding spoken_multiplier
  spoken_refused =
      refused_bind (multiplied d.numeral d.kind) (multiplied_refused d.numeral d.kind) (λ m _. multiplied_refused m d.row)

  -- what is handed on of it
  pub product_got : {m : Multiplier} → spoken_multiplier d ≡ got m → spoken_product d ≡ got (net m)
  unfolding spoken_product product
  product_got e = rw e

  pub product_refused : {c : Refusal} → spoken_multiplier d ≡ refused c → spoken_product d ≡ refused c
  unfolding spoken_product product
  product_refused e = rw e
