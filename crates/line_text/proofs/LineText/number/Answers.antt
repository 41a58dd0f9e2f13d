-- `line_text::LineText::number` meets its contract: the digits that are put behind the text are the number's.
use mathlib.Core.Path.{ap, ◌∙◌}
use mathlib.Core.List.{◌++◌}
use native.Mathlib.Omega.{arith}
use Rattle.line_text.specs.Room.{shown}
use Rattle.line_text.proofs.DecimalLaws.{printed_decimal}
use Rattle.line_text.proofs.LineText.number.Goals as goal

pub returns : goal.returns
returns c =
    let a = c.args in
    let word = c.word.ensures in
    let digits = c.format.ensures in
    record {
      whole = word.whole;
      takes = word.takes;
      adds = word.adds ∙ ap (λ ds. shown a.self.now ++ ds) (digits.text ∙ printed_decimal a.number (omega arith));
      fits = omega (arith, word.fits, digits.fits);
    }
