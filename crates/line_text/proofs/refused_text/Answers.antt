-- `line_text::refused_text` meets its contract: the word, the number and the line end stand one behind another.
use mathlib.Core.Path.{refl}
use mathlib.Core.List.{append_assoc}
use native.Mathlib.Omega.{arith}
use Rattle.line_text.specs.Text.{bytes, refused_text}
use Rattle.line_text.proofs.refused_text.Goals as goal

pub returns : goal.returns
unfolding refused_text bytes
returns c =
    let empty = c.empty-text.ensures in
    let word = c.word.ensures in
    let number = c.number.ensures in
    let end = c.word-2.ensures in (
      rw (end.adds, number.adds, word.adds, empty.1) (simp append_assoc refl),
      record { whole = end.whole; takes = end.takes; fits = omega (arith, empty.0.fits, word.fits, number.fits, end.fits) },
    )
