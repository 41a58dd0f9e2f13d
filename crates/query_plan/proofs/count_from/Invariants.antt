-- The records from a cursor on are those that were counted and those that are left, at every turn; the cursor's index fits; each turn leaves one
-- record fewer.
use mathlib.Core.Path.{◌≡◌}
use Prim.Native.Nat.{◌+◌}
use Rattle.reader.specs.Listing.{counted, items}
use Rattle.reader.proofs.ListingLaws.{plus}
use Rattle.index.specs.Layout.{parts}
use Rattle.index.specs.Inner.{PartsFit}
use Rattle.section_records.specs.Inner.{query_left}
use Rattle.query_plan.proofs.count_from.Given as goal

abbrev pub invariant-loop-count : goal.invariant-loop-count
invariant-loop-count l =
    (counted (query_left l.order l.section l.strings l.hash l.name l.fn.from) ≡ plus l.count (counted (query_left l.order l.section l.strings l.hash l.name l.cursor)))
    × (l.count + items (query_left l.order l.section l.strings l.hash l.name l.cursor) ≡ items (query_left l.order l.section l.strings l.hash l.name l.fn.from))
    × PartsFit l.section (parts l.cursor.index)

abbrev pub decreases-loop-count : goal.decreases-loop-count
decreases-loop-count l = items (query_left l.order l.section l.strings l.hash l.name l.cursor)
