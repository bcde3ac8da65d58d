-- `steps::letters::next_is_ignore_ascii_case` meets its contract: the word stands there if all of its letters do. Assumes nothing.
use mathlib.Core.Path.{ap, ◌∙◌}
use lib.ListN.{length}
use lib.Dec.{eqb}
use Rattle.steps.specs.Letters.{says_matching}
use Rattle.steps.proofs.letters.next_is_ignore_ascii_case.Goals as goal

pub returns : goal.returns
returns c = ap (λ n. eqb n (length c.args.word.now)) c.letters_matching.ensures ∙ says_matching _ _ _
