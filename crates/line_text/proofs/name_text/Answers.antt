-- `line_text::name_text` meets its contract: the fields stand one behind another, and no line is longer than 128 bytes.
use mathlib.Core.Path.{refl}
use mathlib.Core.List.{append_assoc}
use native.Mathlib.Omega.{arith}
use Rattle.line_text.specs.Text.{bytes, name_text}
use Rattle.line_text.proofs.name_text.Goals as goal

pub returns : goal.returns
unfolding name_text bytes
returns c =
    let empty = c.empty-text.ensures in
    let name = c.number.ensures in
    let string = c.number-2.ensures in
    let entries = c.number-3.ensures in
    let hash = c.or_dash.ensures in
    let end = c.word-5.ensures in (
      rw (end.adds, entries.adds, c.word-4.ensures.adds, string.adds, c.word-3.ensures.adds, hash.adds, c.word-2.ensures.adds, name.adds, c.word.ensures.adds, empty.1)
          (simp append_assoc refl),
      record { whole = end.whole; takes = end.takes; fits = omega (arith, empty.0.fits, c.word.ensures.fits, name.fits, c.word-2.ensures.fits, hash.fits, c.word-3.ensures.fits, string.fits, c.word-4.ensures.fits, entries.fits, end.fits) },
    )
