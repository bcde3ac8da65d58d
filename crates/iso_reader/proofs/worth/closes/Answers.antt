-- `iso_reader::worth::closes` meets its contract: by the kind, and by the fraction. Assumes nothing.
use Rattle.std.proofs.Common.{◌≡◌, ◌==◌, List, [], ◌∷◌, length, not, refl, sym, ap, ◌∙◌, ⊎_elim, ℕ, arith}
use borrow.Author.Tests.{ne_eqb}
use Rattle.iso.specs.IsoTimings.{none}
use Rattle.iso_reader.specs.declared.counted.Kind.TheVariants.{Seconds, Minutes, Hours, Days, Weeks}
use Rattle.iso_reader.specs.Sums.{closes_by}
use Rattle.iso_reader.proofs.worth.closes.Goals as goal
use Rattle.iso_reader.proofs.worth.closes.Goals.{After-is_empty}

pub returns-in-Weeks : goal.returns-in-Weeks
returns-in-Weeks c =
    ⊎_elim (λ e. sym (closes_by c.args.counted.now Weeks e)) (λ e. sym (closes_by c.args.counted.now Seconds e)) c.in-Weeks.is

empty : (xs : List ℕ) → (length xs == 0) ≡ none xs
unfolding none
empty [] = refl
empty (x ∷ xs) = ne_eqb (length (x ∷ xs)) 0 (λ e. absurd (omega (arith, e)))

some : (c : After-is_empty) → not c.is_empty.result ≡ not (none c.args.counted.now.typed.fraction.now)
some c = ap not (c.is_empty.ensures ∙ empty _)

pub returns-in-Days : goal.returns-in-Days
returns-in-Days c = some c ∙ sym (⊎_elim (closes_by c.args.counted.now Days) (⊎_elim (closes_by c.args.counted.now Hours) (closes_by c.args.counted.now Minutes)) c.in-Days.is)
