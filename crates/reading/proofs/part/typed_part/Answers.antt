-- `reading::part::typed_part` meets its contract: the start, and then the number or the word after the sign. Assumes nothing.
use Rattle.std.proofs.Common.{◌≡◌, sym, ap, ◌∙◌, rules}
use Rattle.rules.specs.NumbersHandedBack.{refused}
use Rattle.rules.specs.SettingsAsWords.{settings_of}
use Rattle.rules.proofs.Laws.Outcomes.{bind_got, bind_refused}
use Rattle.reading.specs.Meant.{meant}
use Rattle.reading.specs.Coded.{codes, codes_refused}
use Rattle.reading.specs.Typed.{typed_part, start_class}
use Rattle.reading.proofs.part.typed_part.Goals as goal

pub unsigned_part-requires : goal.unsigned_part-requires
unsigned_part-requires c = start_class (settings_of c.args.card.now.settings.now) _ _ (sym c.in_ok-start.ensures)

pub returns-in_err-start : goal.returns-in_err-start
unfolding typed_part
returns-in_err-start c =
    let refusal : refused c.in_err-start.field-0.0 ≡ codes c.args.text.now (typed_part (meant c.args.card.now) c.args.text.now c.args.place) =
    codes_refused _ (sym (bind_refused _ (sym c.in_err-start.ensures))) in
    search rules

pub returns : goal.returns
unfolding typed_part
returns c = c.unsigned_part.ensures ∙ ap (codes c.args.text.now) (sym (bind_got _ (sym c.in_ok-start.ensures)))
