-- `steps::connection::after_conjunction` meets its contract: the text's end, delimiters, the next part, and any other byte. Assumes nothing.
use mathlib.Core.Path.{sym, ◌∙◌}
use Rattle.rules.specs.SettingsAsWords.{settings_of}
use Rattle.steps.specs.Connections.{after_ends, after_delimiters, after_part, after_other}
use Rattle.steps.proofs.connection.after_conjunction.Goals as goal

pub returns-then-text-place : goal.returns-then-text-place
returns-then-text-place c = after_ends (settings_of c.args.settings.now) (sym c.outer_delimiters-outer.ensures) _ _ _ c.if-text-place.true

pub try_consume_delimiter-requires : goal.try_consume_delimiter-requires
try_consume_delimiter-requires c = sym c.is_delimiter.ensures ∙ c.if-is_delimiter.true

pub returns-then-is_delimiter : goal.returns-then-is_delimiter
returns-then-is_delimiter c =
    c.try_consume_delimiter.ensures
    ∙ after_delimiters (settings_of c.args.settings.now) (sym c.outer_delimiters-outer.ensures) _ _ _ c.if-text-place.false
    c.is_delimiter.ensures c.if-is_delimiter.true

pub returns-then-is_next_duration : goal.returns-then-is_next_duration
returns-then-is_next_duration c =
    after_part (settings_of c.args.settings.now) (sym c.outer_delimiters-outer.ensures) _ _ _ c.if-text-place.false
    c.is_delimiter.ensures c.if-is_delimiter.false (sym c.is_next_duration.ensures ∙ c.if-is_next_duration.true)

pub returns : goal.returns
returns c =
    after_other (settings_of c.args.settings.now) (sym c.outer_delimiters-outer.ensures) _ _ _ c.if-text-place.false
    c.is_delimiter.ensures c.if-is_delimiter.false (sym c.is_next_duration.ensures ∙ c.if-is_next_duration.false)
