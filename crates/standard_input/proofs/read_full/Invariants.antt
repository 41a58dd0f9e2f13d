-- At every turn no more was read than there is room for, and each read takes room.
use Rattle.std.proofs.Common.{length, ◌-◌, ◌≤◌}
use Rattle.standard_input.proofs.read_full.Given as goal

abbrev pub invariant-loop-at : goal.invariant-loop-at
invariant-loop-at g l = l.at ≤ length l.bytes

abbrev pub decreases-loop-at : goal.decreases-loop-at
decreases-loop-at g l = length l.initial.bytes - l.at
