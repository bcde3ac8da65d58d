-- `reading::typed::infinite_part` meets its contract: what follows `inf`. Assumes nothing.
use Rattle.std.proofs.Common.{sym, rules}
use Rattle.rules.specs.SettingsAsWords.{settings_of}
use Rattle.value.specs.Sums.{sum_none}
use Rattle.reading.specs.Typed.{infinite_refused, infinite_got}
use Rattle.reading.specs.Coded.{codes_typed, codes_refused}
use Rattle.reading.proofs.typed.infinite_part.Goals as goal

pub returns-in_err-next : goal.returns-in_err-next
returns-in_err-next c =
    let refusal = codes_refused c.args.text.now (infinite_refused (settings_of c.args.card.now.settings.now) c.args.text.now c.args.negative c.args.place (sym c.in_err-next.ensures)) in
    search rules

pub returns : goal.returns
returns c =
    rw (c.kind_multiplier.ensures, c.default_kind.ensures)
    (codes_typed _ (infinite_got (settings_of c.args.card.now.settings.now) _ _ _ (sym c.in_ok-next.ensures)) (sum_none _ _))
