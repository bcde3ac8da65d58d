-- `iso_reader::components::component` meets its contract: a number, and the letter at its end. Assumes nothing.
use Rattle.std.proofs.Common.{◌≡◌, ◌∙◌, ℕ, false, leb, refl, sym, ap, get_or, arith}
use Rattle.rules.specs.NumbersHandedBack.{◌>>=◌}
use Rattle.rules.specs.Common.{between}
use Rattle.rules.proofs.Laws.Choices.{if_either}
use Rattle.iso.specs.IsoTimings.{ANY, kind_of, may_come}
use Rattle.iso_reader.specs.Kinds.{bound}
use Rattle.iso_reader.specs.Steps.{number_then, component_then, handed_on, letter_none, letter_comes, letter_year, letter_other}
use Rattle.iso_reader.proofs.components.component.Goals as goal
use Rattle.iso_reader.proofs.components.component.Goals.{After-year_or_month, In-Some, in_default-kind_of-via-in-Some-kind_of+else-may_come, in_default-kind_of-via-in_default-kind_of}

pub returns-in_err-typed-clause-outcome : goal.returns-in_err-typed-clause-outcome
unfolding ◌>>=◌
returns-in_err-typed-clause-outcome c = rw (handed_on c.from_residual.result c.from_residual.ensures.1) (c.in_err-typed.ensures.by_index _)

pub returns-in_default-clause-outcome : goal.returns-in_default-clause-outcome
unfolding ◌>>=◌ number_then
returns-in_default-clause-outcome c = letter_none c.args.text.now _ _ c.in_ok-typed.at _ c.in_default.ensures.lookup.3 ∙ c.in_ok-typed.ensures.by_index _

-- the letter stands behind the number
letter : (c : In-Some) → c.in-Some.field-0.now ≡ get_or c.args.text.now c.in_ok-typed.at 0
letter c = c.in-Some.ensures.lookup.4 (omega arith) 0

pub returns-in-Some-kind_of-clause-outcome : goal.returns-in-Some-kind_of-clause-outcome
unfolding ◌>>=◌ number_then component_then
returns-in-Some-kind_of-clause-outcome c =
    let kind = c.in-Some-kind_of.ensures ∙ ap kind_of (letter (goal.at.returns-in-Some-kind_of-clause-outcome c).In-Some) in
    rw kind (letter_comes c.args.text.now _ _ c.in_ok-typed.at _ c.in-Some.ensures.lookup.3.0 (rw kind at (sym c.if-may_come.ensures)) ∙ c.in_ok-typed.ensures.by_index _)

-- 0 is no kind that may come
none_comes : (k : ℕ) → may_come k 0 ≡ false
unfolding may_come between
none_comes k = if_either (λ t. t ≡ false) (leb ANY k) (λ _. refl) (λ _. refl)

never : (c : After-year_or_month) → may_come (bound c.args.below) (kind_of c.in-Some.field-0.now) ≡ false
never c =
    elim c.in_default-kind_of.branch [ in_default-kind_of-via-in-Some-kind_of+else-may_come w ↦ rw (← w.in-Some-kind_of.ensures) (sym w.if-may_come.ensures) | in_default-kind_of-via-in_default-kind_of w ↦ rw (← w.in_default-kind_of.ensures) (none_comes _) ]

pub returns-in_default-kind_of-clause-outcome : goal.returns-in_default-kind_of-clause-outcome
unfolding ◌>>=◌ number_then
returns-in_default-kind_of-clause-outcome c =
    let at = goal.at.returns-in_default-kind_of-clause-outcome c in
    let letter = letter at.In-Some in
    letter_year c.args.text.now _ _ c.in_ok-typed.at _ c.in-Some.ensures.lookup.3.0 (rw letter at (never at.After-year_or_month)) (rw letter at (sym c.if-year_or_month.ensures)) ∙ c.in_ok-typed.ensures.by_index _

pub returns-in_default-2-clause-outcome : goal.returns-in_default-2-clause-outcome
unfolding ◌>>=◌ number_then
returns-in_default-2-clause-outcome c =
    let at = goal.at.returns-in_default-2-clause-outcome c in
    let letter = letter at.In-Some in
    letter_other c.args.text.now _ _ c.in_ok-typed.at _ c.in-Some.ensures.lookup.3.0 (rw letter at (never at.After-year_or_month)) (rw letter at (sym c.if-year_or_month.ensures)) ∙ c.in_ok-typed.ensures.by_index _
