-- There and back as the entries hand it back: an answer, and a target of which the answer says how many bytes were written. Assumes nothing.
use Rattle.std.specs.Prelude.{ℕ, take}
use mathlib.Core.List.{List}
use Rattle.rules.specs.declared.Answer.{Answer}

-- as many bytes of the target as the answer says
unfoldable pub written : Answer → List ℕ → List ℕ
written answer target = take answer.position target
