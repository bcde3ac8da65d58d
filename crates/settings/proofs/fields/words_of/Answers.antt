-- `settings::fields::words_of` meets its contract: word by word, and the words say the record. Assumes nothing.
use mathlib.Core.Path.{◌≡◌, ap, ◌∙◌}
use mathlib.Core.List.{List}
use Prim.Native.Nat.{ℕ}
use native.Mathlib.Omega.{arith}
use Rattle.rules.specs.declared.Settings.{Settings}
use Rattle.rules.specs.SettingsAsWords.{settings_of, settings_words}
use Rattle.rules.proofs.Laws.SettingsAsWords.{Fit, settings_back}
use Rattle.settings.proofs.fields.words_of.Goals as goal
use Rattle.settings.proofs.fields.words_of.Goals.{After-struct_known-6-1}

fit : (c : After-struct_known-6-1) → Fit c.args.s
fit c =
    let good = c.well_formed.0 in
    record {
      count = omega (arith, good);
      first_size = omega (arith, good);
      second_size = omega (arith, good);
      third_size = omega (arith, good);
      fourth_size = omega (arith, good);
      kind = omega (arith, good);
    }

there_and_back : {s : Settings} {words : List ℕ} → Fit s → words ≡ settings_words s → (words ≡ settings_words s) × (settings_of words ≡ s)
there_and_back {s = s} f e = (e, ap settings_of e ∙ settings_back s f)

pub returns : goal.returns
unfolding settings_words
returns c =
    there_and_back (fit c)
    (rw (
      c.bit.ensures,
      c.bit-2.ensures,
      c.bit-3.ensures,
      c.bit-4.ensures,
      c.bit-5.ensures,
      c.bit-6.ensures,
      c.bit-7.ensures,
    ))

pub overflow_cast-result-6 : goal.overflow_cast-result-6
overflow_cast-result-6 c = omega (arith, c.well_formed.0)
