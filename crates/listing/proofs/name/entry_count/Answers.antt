-- `listing::name::entry_count` meets its contract: what is counted from a place on is decided by the entry
-- there and those after it (`count_step`), and each entry takes a byte.
use native.Mathlib.Omega.{arith}
use Rattle.listing.proofs.CountLaws.{count_after, count_step, read_forward, count_started}
use Rattle.reader.proofs.ListingLaws.{plus_none, plus-end, plus-plus}
use Rattle.listing.proofs.name.entry_count.Goals as goal

pub loop-entry-init : goal.loop-entry-init
loop-entry-init c = (plus_none _, omega arith)

pub overflow_add-count : goal.overflow_add-count
overflow_add-count c =
    let (ahead, inside) = read_forward _ _ _ _ _ (rw c.in-Some.is at c.in_ok-entry.ensures) in
    let few = c.loop-entry.invariant.1 in
    omega arith

pub loop-entry-smaller : goal.loop-entry-smaller
loop-entry-smaller c =
    let (ahead, inside) = read_forward _ _ _ _ _ (rw c.in-Some.is at c.in_ok-entry.ensures) in
    omega arith

pub loop-entry-preserved : goal.loop-entry-preserved
unfolding count_after
loop-entry-preserved c =
    let (ahead, inside) = read_forward _ _ _ _ _ (rw c.in-Some.is at c.in_ok-entry.ensures) in
    let few = c.loop-entry.invariant.1 in (
      rw (c.loop-entry.invariant.0, count_step, ← c.in_ok-entry.ensures, c.in-Some.is, plus-plus),
      omega arith,
    )

pub returns : goal.returns
unfolding count_after
returns c =
    rw (
      count_started _ _ _ _ _ c.in_ok-at.ensures,
      c.loop-entry.invariant.0,
      count_step,
      ← c.in_ok-entry.ensures,
      c.in_default.is,
      plus-end,
    )
