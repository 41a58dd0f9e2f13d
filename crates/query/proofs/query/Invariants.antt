-- At every turn a cursor that is still read has an index that fits, and what the loop as a function (`run_list`) makes of the records now is what it makes of those that were lent.
use Rattle.std.proofs.Common.{length, ◌-◌, ◌≡◌}
use Rattle.query_plan.specs.Inner.{writing_left, Ready}
use Rattle.query.proofs.Runs.{run_list}
use Rattle.query.proofs.query.Given as goal

abbrev pub invariant-loop-place : goal.invariant-loop-place
invariant-loop-place l =
    (run_list (length l.out - l.place-index) l.place-index (writing_left l.order l.section l.strings l.hash l.name l.writing) l.out
    ≡ run_list (length l.initial.out) 0 (writing_left l.order l.section l.strings l.hash l.name l.initial.writing) l.initial.out)
    × Ready l.section l.writing
