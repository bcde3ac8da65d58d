-- `value::number::Digits::seconds` meets its contract: what the digits spell, with zeros; if the digits alone do not fit, neither do they with zeros.
-- Assumes nothing.
use Rattle.std.proofs.Common.{ap, ◌∙◌, ◌*◌, ◌^◌}
use Rattle.value.specs.Numbers.{as_word}
use Rattle.value.specs.Places.{zeros_too_large, fits_word}
use Rattle.value.proofs.number.Digits.seconds.Goals as goal

pub returns-in_err-number : goal.returns-in_err-number
returns-in_err-number c = c.from_residual.ensures ∙ zeros_too_large _ _ c.in_err-number.ensures

pub returns : goal.returns
returns c = c.put_zeros.ensures ∙ ap (λ n. as_word (n * 10 ^ c.args.zeros)) (fits_word _ c.in_ok-number.ensures)
