-- `reading::part::allowed` meets its contract: a negative that is forbidden, one that is not, and none. Assumes nothing.
use Rattle.std.proofs.Common.{sym, ap, ◌∙◌, not, rules}
use borrow.Author.Tests.{not-false}
use Rattle.rules.specs.SettingsAsWords.{settings_of}
use Rattle.rules.specs.Evaluation.{allowed}
use Rattle.rules.specs.Common.{when◌then◌else◌}
use Rattle.reading.specs.Allowed.{negative_allowed, not_negative}
use Rattle.reading.proofs.part.allowed.Goals as goal
use Rattle.reading.proofs.part.allowed.Goals.{else-length-via-then-length+else-not-negatives, else-length-via-else-length}

pub returns-then-not-negatives : goal.returns-then-not-negatives
unfolding allowed when◌then◌else◌
returns-then-not-negatives c = search rules

pub returns : goal.returns
returns c =
    elim c.else-length.branch [
      | else-length-via-then-length+else-not-negatives w ↦ negative_allowed (settings_of c.args.settings.now) _ _ _ (sym w.negatives.ensures ∙ not-false _ (ap not w.if-not-negatives.false))
      | else-length-via-else-length w ↦ not_negative (settings_of c.args.settings.now) _ _ _ w.if-length.false
    ]
