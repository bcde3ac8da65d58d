-- The four conjunctions that a settings record has room for. Assumes nothing.
use Rattle.std.specs.Prelude.{List, [], ◌∷◌}
use Rattle.rules.specs.declared.Conjunction.{Conjunction}
use Rattle.rules.specs.declared.Settings.{Settings}

abbrev pub conjunctions_listed : Settings → List Conjunction
conjunctions_listed s = s.first ∷ s.second ∷ s.third ∷ s.fourth ∷ []
