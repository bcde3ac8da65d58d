-- What the reader hands back, case by case. Assumes nothing.
use Rattle.std.specs.Prelude.{◌≡◌, List, ℕ, ◌≤◌, ◌<◌, length}
use Rattle.std.proofs.Common.{le-leb}
use Rattle.std.proofs.lemmas.Bool.{lt-leb}
use Rattle.rules.specs.declared.Length.{Length}
use Rattle.rules.specs.declared.Refusal.{Refusal}
use Rattle.rules.specs.declared.Refusal.TheVariants.{TextTooLong}
use Rattle.rules.specs.NumbersHandedBack.{got, refused, ◌>>=◌, ◌>>◌, unless, done, refusal, answered}
use Rattle.iso.specs.IsoTimings.{components, read_iso, iso_answer}
use Rattle.iso_reader.specs.Sums.{valued}

module _ (text : List ℕ) where
  pub answer_too_long : 4096 < length text → refusal TextTooLong ≡ iso_answer text
  unfolding iso_answer read_iso unless answered ◌>>◌ ◌>>=◌
  answer_too_long h = rw (lt-leb (length text) 4096 h)

  module _ (short : length text ≤ 4096) where
    pub answer_refused : {cause : Refusal} → refused cause ≡ valued (components text) → refusal cause ≡ iso_answer text
    unfolding iso_answer read_iso unless answered ◌>>◌
    answer_refused e = rw (le-leb (length text) 4096 short, ← e)

    pub answer_read : {l : Length} → got l ≡ valued (components text) → done (length text) l ≡ iso_answer text
    unfolding iso_answer read_iso unless answered ◌>>◌
    answer_read e = rw (le-leb (length text) 4096 short, ← e)
