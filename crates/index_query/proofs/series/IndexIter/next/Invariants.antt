-- What a cursor has left is decided by the entry at its place, or else by the next name that matches, and each turn leaves one such name fewer.
use mathlib.Core.Path.{◌≡◌}
use Rattle.reader.specs.Listing.{items}
use Rattle.index_query.specs.Inner.{matches_from}
use Rattle.index_query.specs.Inner.{index_left}
use Rattle.index_query.proofs.series.IndexIter.next.Given as goal

abbrev pub invariant-loop-record : goal.invariant-loop-record
invariant-loop-record l = index_left l.order l.section l.strings l.hash l.name l.offset l.p l.initial.self ≡ index_left l.order l.section l.strings l.hash l.name l.offset l.p l.self

abbrev pub decreases-loop-record : goal.decreases-loop-record
decreases-loop-record l = items (matches_from l.order l.section l.strings l.hash l.name l.p l.self.next)
