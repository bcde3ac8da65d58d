-- `settings::check::conjunctions_accepted` meets its contract: how many there are, and each of them. Assumes nothing.
use Rattle.std.proofs.Common.{◌≡◌, ℕ, zero, suc, ◌≤◌, get_or, take, refl, ◌∙◌, arith, rules, tests, le-leb}
use Rattle.std.specs.List.{list_all, range_with_len}
use Rattle.std.proofs.lemmas.Grind.{common_steps}
use Rattle.std.proofs.lemmas.Bool.Decides.{nat_tests}
use Rattle.std.proofs.lemmas.Iterator.{YieldsList-from_range}
use Rattle.std.proofs.lemmas.Iterator.Search.{all_from_yields_List}
use Rattle.rules.specs.declared.Settings.{Settings}
use Rattle.rules.specs.Common.{all}
use Rattle.rules.specs.SettingsAsWords.{settings_of}
use Rattle.rules.specs.SettingsAndUnitTable.{conjunctions_of, conjunction_accepted, conjunctions_accepted}
use Rattle.settings.specs.Conjunctions.{conjunctions_listed}
use Rattle.settings.proofs.check.conjunctions_accepted.Goals as goal

-- the first so many of the four
each : (s : Settings) (n : ℕ) → n ≤ 4 → list_all (λ i. conjunction_accepted (get_or (conjunctions_listed s) i s.fourth)) (range_with_len 0 n) ≡ all conjunction_accepted (take n (conjunctions_listed s))
unfolding all
each s zero h = refl
each s (suc zero) h = refl
each s (suc (suc zero)) h = refl
each s (suc (suc (suc zero))) h = refl
each s (suc (suc (suc (suc zero)))) h = refl
each s (suc (suc (suc (suc (suc n))))) h = absurd (omega arith)

pub returns-then-count-le4 : goal.returns-then-count-le4
unfolding conjunctions_accepted conjunctions_of
returns-then-count-le4 c =
    let s = settings_of c.args.settings.now in
    let count = c.conjunctions-count.result in
    let answered = all_from_yields_List (λ i. conjunction_accepted (get_or (conjunctions_listed s) i s.fourth)) _ _ c.all.result c.all.ensures.ran (YieldsList-from_range 0 count count refl (omega arith)) (λ x b q k. search (rules, tests))
    ∙ each s count (omega arith) in
    rw (← c.conjunctions-count.ensures, le-leb count 4 (omega arith)) answered

pub returns-else-count-le4 : goal.returns-else-count-le4
unfolding conjunctions_accepted
returns-else-count-le4 c = grind (arith, common_steps, nat_tests)
