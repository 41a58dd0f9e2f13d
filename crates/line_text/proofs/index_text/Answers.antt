-- `line_text::index_text` meets its contract: the fields stand one behind another, and no line is longer than 128 bytes.
use mathlib.Core.Path.{refl}
use mathlib.Core.List.{append_assoc}
use native.Mathlib.Omega.{arith}
use Rattle.line_text.specs.Text.{bytes, index_text}
use Rattle.line_text.proofs.index_text.Goals as goal

pub returns : goal.returns
unfolding index_text bytes
returns c =
    let empty = c.empty-text.ensures in
    let place = c.number.ensures in
    let names = c.number-2.ensures in
    let buckets = c.number-3.ensures in
    let missed = c.or_dash.ensures in
    let end = c.word-5.ensures in (
      rw (end.adds, missed.adds, c.word-4.ensures.adds, buckets.adds, c.word-3.ensures.adds, names.adds, c.word-2.ensures.adds, place.adds, c.word.ensures.adds, empty.1)
          (simp append_assoc refl),
      record { whole = end.whole; takes = end.takes; fits = omega (arith, empty.0.fits, c.word.ensures.fits, place.fits, c.word-2.ensures.fits, names.fits, c.word-3.ensures.fits, buckets.fits, c.word-4.ensures.fits, missed.fits, end.fits) },
    )
