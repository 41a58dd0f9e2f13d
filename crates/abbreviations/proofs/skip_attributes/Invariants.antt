-- `abbreviations::skip_attributes` meets its contract: the pairs from a place on are the pair there and the pairs after it (`attributes_end_step`; `pairs_on` and `pairs_last` for a short pair), and each pair takes a byte.
use mathlib.Core.Path.{◌≡◌}
use Rattle.reader.specs.Parts.{left_at}
use Rattle.abbreviations.specs.Inner.{attributes_end}
use Rattle.abbreviations.proofs.skip_attributes.Given as goal

abbrev pub invariant-loop-place : goal.invariant-loop-place
invariant-loop-place l = attributes_end l.s l.at l.end ≡ attributes_end l.s l.place l.end

abbrev pub decreases-loop-place : goal.decreases-loop-place
decreases-loop-place l = left_at l.s l.place l.end
