-- What a cursor has left is what its index has left, and then what the headers past it have; its index fits; each turn is past another header.
use mathlib.Core.Path.{◌≡◌}
use Prim.Native.Nat.{◌-◌}
use lib.ListN.{length}
use Rattle.index.specs.Layout.{parts}
use Rattle.index.specs.Inner.{PartsFit}
use Rattle.section_records.specs.Inner.{query_left}
use Rattle.section_records.proofs.QueryIter.next.Given as goal

abbrev pub invariant-loop-record : goal.invariant-loop-record
invariant-loop-record l =
    (query_left l.order l.section l.strings l.hash l.name l.initial.self ≡ query_left l.order l.section l.strings l.hash l.name l.self)
    × PartsFit l.section (parts l.self.index)

abbrev pub decreases-loop-record : goal.decreases-loop-record
decreases-loop-record l = length l.section - l.self.at
