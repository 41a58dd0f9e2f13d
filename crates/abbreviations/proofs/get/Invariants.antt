-- `abbreviations::get` meets its contract: the search from a place on is decided by the declaration there or by the table after it (`found_step`), and each declaration takes a byte.
use mathlib.Core.Path.{◌≡◌}
use Rattle.abbreviations.specs.Abbreviations.{found}
use Rattle.reader.specs.Parts.{left_at}
use Rattle.abbreviations.proofs.get.Given as goal

abbrev pub invariant-loop-declaration : goal.invariant-loop-declaration
invariant-loop-declaration l = found l.s l.at l.end l.code ≡ found l.s l.place l.end l.code

abbrev pub decreases-loop-declaration : goal.decreases-loop-declaration
decreases-loop-declaration l = left_at l.s l.place l.end
