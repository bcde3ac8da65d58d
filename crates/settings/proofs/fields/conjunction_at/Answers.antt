-- `settings::fields::conjunction_at` meets its contract: four places, and beyond them the last. Assumes nothing.
use Rattle.std.proofs.Common.{◌≡◌, List, ℕ, zero, suc, ◌+◌, ◌*◌, min, get_or, refl, arith}
use Rattle.rules.specs.declared.Conjunction.{Conjunction}
use Rattle.rules.specs.SettingsAsWords.{word, conjunction_of, settings_of}
use Rattle.settings.specs.Conjunctions.{conjunctions_listed}
use Rattle.settings.proofs.fields.conjunction_at.Goals as goal

placed : (words : List ℕ) (i : ℕ) → let at = 16 + 2 * min i 3 in conjunction_of (word words at) (word words (at + 1)) ≡ get_or (conjunctions_listed (settings_of words)) i (settings_of words).fourth
unfolding settings_of
placed words zero = refl
placed words (suc zero) = refl
placed words (suc (suc zero)) = refl
placed words (suc (suc (suc zero))) = refl
placed words (suc (suc (suc (suc i)))) =
    let last : min (suc (suc (suc (suc i)))) 3 ≡ 3 = omega arith in
    rw last

pub returns : goal.returns
unfolding conjunction_of
returns c = rw (c.held_to_byte.ensures, c.min.ensures) (placed c.args.settings.now c.args.i)
