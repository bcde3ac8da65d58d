-- `steps::sign::parse_number_sign` meets its contract: no sign, a sign that ends the text, and one with something after it. Assumes nothing.
use mathlib.Core.Path.{sym}
use Rattle.std.proofs.Common.{rules}
use Rattle.rules.specs.SettingsAsWords.{settings_of}
use Rattle.steps.specs.Signs.{sign_plain, sign_last, sign_got, sign_refused}
use Rattle.steps.proofs.sign.parse_number_sign.Goals as goal

pub returns-then-after-place : goal.returns-then-after-place
returns-then-after-place c = sign_plain (settings_of c.args.settings.now) _ _ c.sign_at-sign.ensures c.if-after-place.true

pub returns-then-text-after : goal.returns-then-text-after
returns-then-text-after c = sign_last (settings_of c.args.settings.now) _ _ c.sign_at-sign.ensures c.if-after-place.false c.if-text-after.true

pub returns-in_err-next : goal.returns-in_err-next
returns-in_err-next c =
    let refusal = sign_refused (settings_of c.args.settings.now) _ _ c.sign_at-sign.ensures c.if-after-place.false c.if-text-after.false (sym c.after_sign.ensures) (sym c.in_err-next.ensures) in
    search rules

pub returns : goal.returns
returns c =
    sign_got (settings_of c.args.settings.now) _ _ c.sign_at-sign.ensures c.if-after-place.false
    c.if-text-after.false (sym c.after_sign.ensures) (sym c.in_ok-next.ensures)
