-- `line_text::LineText::or_dash` meets its contract: a "-" stands for a number that is missing.
use native.Mathlib.Omega.{arith}
use Rattle.line_text.specs.Text.{bytes}
use Rattle.line_text.proofs.LineText.or_dash.Goals as goal

pub returns-in-None : goal.returns-in-None
unfolding bytes
returns-in-None c =
    let dash = c.word.ensures in
    rw c.in-None.is (record { whole = dash.whole; takes = dash.takes; adds = dash.adds; fits = omega (arith, dash.fits) })
