-- `printing::Line::put` meets its contract: its four parts, one behind the other. Assumes nothing.
use Rattle.std.proofs.Common.{◌≡◌, ap, ◌∙◌, List, ℕ, arith, rules}
use Rattle.writing.specs.Laid.{laid}
use Rattle.printing.specs.Lines.{newline}
use Rattle.printing.specs.Printed.{space}
use Rattle.printing.specs.Fields.{figures, signed_figures, line_laid}
use Rattle.printing.proofs.Line.put.Goals as goal

-- what is laid over what was laid before it, three times
one-behind-another :
    {before first second third fourth whole : List ℕ} (f g h : List ℕ → List ℕ)
    → first ≡ before
    → second ≡ f first
    → third ≡ g second
    → fourth ≡ h third
    → h (g (f before)) ≡ whole
    → fourth ≡ whole
one-behind-another f g h e₁ e₂ e₃ e₄ w = e₄ ∙ ap h (e₃ ∙ ap g (e₂ ∙ ap f e₁)) ∙ w

pub returns : goal.returns
returns c =
    let line = c.args.self.now in
    let whole =
    line_laid line c.args.buffer.now c.args.place (omega (arith, c.requires)) c.put_figures-second.ensures.value c.put_figures-third.ensures.value c.put_signed-last.ensures.value in record {
      value = search rules;
      buffer_after = one-behind-another
          (λ b. laid b c.put_figures-second.result (figures line.position space))
          (λ b. laid b c.put_figures-third.result (signed_figures line.sign line.seconds space))
          (λ b. laid b c.put_signed-last.result (figures line.nanoseconds newline))
          c.put_figures-second.ensures.buffer_after c.put_figures-third.ensures.buffer_after c.put_signed-last.ensures.buffer_after c.put_figures.ensures.buffer_after whole;
    }
