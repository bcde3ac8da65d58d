-- `reading::part::parse_part` meets its contract: what was typed, the connection, out of range or evaluated, and tested. Assumes nothing.
use Rattle.std.proofs.Common.{◌≡◌, sym, ap, ◌∙◌, rules}
use Rattle.rules.specs.NumbersHandedBack.{refused}
use Rattle.rules.specs.SettingsAsWords.{settings_of}
use Rattle.rules.specs.Evaluation.{part_reading, allowed}
use Rattle.rules.proofs.Laws.Outcomes.{bind_refused}
use Rattle.reading.specs.Meant.{meant}
use Rattle.reading.specs.Coded.{typed_refused, connection_refused, connection_got}
use Rattle.reading.specs.Evaluated.{reading_asked, reading_out, reading_in}
use Rattle.reading.proofs.part.parse_part.Goals as goal

pub returns-in_err-typed : goal.returns-in_err-typed
unfolding part_reading
returns-in_err-typed c =
    let refusal : refused c.in_err-typed.field-0.0 ≡ part_reading (meant c.args.card.now) c.args.text.now c.args.place =
    sym (bind_refused _ (typed_refused (meant c.args.card.now) _ _ (sym c.in_err-typed.ensures))) in
    search rules

pub returns-in_err-next : goal.returns-in_err-next
unfolding part_reading
returns-in_err-next c =
    let refusal : refused c.in_err-next.field-0.0 ≡ part_reading (meant c.args.card.now) c.args.text.now c.args.place =
    sym (bind_refused _ (connection_refused (meant c.args.card.now) _ _ (sym c.in_ok-typed.ensures) (sym c.in_err-next.ensures))) in
    search rules

pub returns-in_err-repr : goal.returns-in_err-repr
returns-in_err-repr c =
    let refusal : refused c.in_err-repr.field-0.0 ≡ part_reading (meant c.args.card.now) c.args.text.now c.args.place =
    reading_out (meant c.args.card.now) _ _ (connection_got (meant c.args.card.now) _ _ (sym c.in_ok-typed.ensures) (sym c.in_ok-next.ensures)) c.in_err-repr.was in
    search rules

pub evaluate-length-requires : goal.evaluate-length-requires
evaluate-length-requires c =
    let both = reading_asked (meant c.args.card.now) _ _ (connection_got (meant c.args.card.now) _ _ (sym c.in_ok-typed.ensures) (sym c.in_ok-next.ensures)) c.in_ok-repr.was in
    record { spans = both.0; counts = both.1 }

pub returns : goal.returns
returns c =
    c.allowed.ensures
    ∙ ap (allowed (settings_of c.args.card.now.settings.now) c.args.place c.in_ok-next.next) c.evaluate-length.ensures
    ∙ reading_in (meant c.args.card.now) _ _ (connection_got (meant c.args.card.now) _ _ (sym c.in_ok-typed.ensures) (sym c.in_ok-next.ensures)) c.in_ok-repr.was
