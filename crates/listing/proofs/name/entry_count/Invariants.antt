-- `listing::name::entry_count` meets its contract: what is counted from a place on is decided by the entry
-- there and those after it (`count_step`), and each entry takes a byte.
use Prim.Native.Nat.{◌≤◌}
use mathlib.Core.Path.{◌≡◌}
use Rattle.reader.specs.Parts.{left_at}
use Rattle.entries.specs.Series.{entries_from}
use Rattle.reader.specs.Listing.{counted}
use Rattle.reader.proofs.ListingLaws.{plus}
use Rattle.listing.proofs.name.entry_count.Given as goal

abbrev pub invariant-loop-entry : goal.invariant-loop-entry
invariant-loop-entry l = (counted (entries_from l.order l.section l.p l.initial.at) ≡ plus l.count (counted (entries_from l.order l.section l.p l.at))) × (l.count ≤ l.at)

abbrev pub decreases-loop-entry : goal.decreases-loop-entry
decreases-loop-entry l = left_at l.section l.at l.p.end
