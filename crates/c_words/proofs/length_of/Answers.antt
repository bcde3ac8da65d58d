-- `c_words::length_of` meets its contract. Assumes nothing.
use Rattle.rules.specs.SettingsAsWords.{on}
use Rattle.c_words.specs.Words.{length_of}
use Rattle.c_words.proofs.length_of.Goals as goal

pub returns : goal.returns
unfolding on length_of
returns c = rw c.held_to_half.ensures
