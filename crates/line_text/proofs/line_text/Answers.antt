-- `line_text::line_text` meets its contract: the line of an index or of a name, and the last line.
use mathlib.Core.Path.{refl}
use mathlib.Core.List.{append_assoc}
use native.Mathlib.Omega.{arith}
use Rattle.line_text.specs.Text.{bytes, line_text}
use Rattle.line_text.proofs.line_text.Goals as goal

pub returns-in-Index : goal.returns-in-Index
unfolding line_text
returns-in-Index c = rw c.in-Index.is c.index_text.ensures

pub returns-in-Name : goal.returns-in-Name
unfolding line_text
returns-in-Name c = rw c.in-Name.is c.name_text.ensures

pub returns-in-Indexes : goal.returns-in-Indexes
unfolding line_text bytes
returns-in-Indexes c =
    let empty = c.empty-text.ensures in
    let word = c.word.ensures in
    let count = c.number.ensures in
    let end = c.word-in-Indexes.ensures in (
      rw (c.in-Indexes.is, end.adds, count.adds, word.adds, empty.1) (simp append_assoc refl),
      record { whole = end.whole; takes = end.takes; fits = omega (arith, empty.0.fits, word.fits, count.fits, end.fits) },
    )
