-- `lengths::duration::well_formed` meets its contract: the nanoseconds are below a second's, and a length that is zero has no minus.
-- Assumes nothing.
use Rattle.std.proofs.Common.{◌≡◌, ◌<◌, ◌^◌, Bool, true, false, refl, sym, ap, ◌∙◌, ltb, ltb-true, ltb-false, lt-ltb, pos_of_ne-zero, rules, arith}
use Rattle.rules.specs.declared.Length.{Length}
use Rattle.rules.specs.ThePartOfTheCrateWeTake.{well_formed}
use Rattle.rules.proofs.Laws.Apart.{nanoseconds_over, plus_well_formed, seconds_well_formed, minus_well_formed}
use Rattle.lengths.proofs.duration.well_formed.Goals as goal
use Rattle.lengths.proofs.duration.well_formed.Goals.{else-l-via-then-l+then-l-eq0+else-l-eq0-2, else-l-via-then-l+else-l-eq0, else-l-via-else-l}

-- a length that is not zero with a minus is well formed by its nanoseconds
by_nanoseconds : (l : Length) → (l.nanoseconds < 10 ^ 9 → true ≡ well_formed l) → ltb l.nanoseconds (10 ^ 9) ≡ well_formed l
by_nanoseconds l h = go (ltb l.nanoseconds (10 ^ 9)) refl
  where
    go : (b : Bool) → ltb l.nanoseconds (10 ^ 9) ≡ b → b ≡ well_formed l
    go true e = h (ltb-true l.nanoseconds (10 ^ 9) e)
    go false e = nanoseconds_over l (ltb-false l.nanoseconds (10 ^ 9) e)

pub returns-then-l-eq0-2 : goal.returns-then-l-eq0-2
returns-then-l-eq0-2 c = sym (ap (ltb 0) c.if-l-eq0-2.true) ∙ minus_well_formed c.args.l (search rules) (omega arith) c.if-l.true c.if-l-eq0.true

pub returns : goal.returns
returns c =
    by_nanoseconds c.args.l (λ below. elim c.else-l.branch [
      | else-l-via-then-l+then-l-eq0+else-l-eq0-2 w ↦ sym (lt-ltb 0 c.args.l.nanoseconds (pos_of_ne-zero w.if-l-eq0-2.false)) ∙ minus_well_formed c.args.l (search rules) below w.if-l.true w.if-l-eq0.true
      | else-l-via-then-l+else-l-eq0 w ↦ seconds_well_formed c.args.l (search rules) below w.if-l-eq0.false
      | else-l-via-else-l w ↦ plus_well_formed c.args.l (search rules) below w.if-l.false
    ])
