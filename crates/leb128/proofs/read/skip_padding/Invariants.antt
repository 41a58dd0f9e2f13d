-- At every turn what was asked for is what is left, and each byte moves forward.
use Prim.Native.Nat.{◌-◌}
use mathlib.Core.Path.{◌≡◌}
use Rattle.leb128.specs.Inner.{past_padding}
use Rattle.leb128.proofs.read.skip_padding.Given as goal

abbrev pub invariant-loop-pad : goal.invariant-loop-pad
invariant-loop-pad l = past_padding l.s l.at l.end ≡ past_padding l.s l.place l.end

abbrev pub decreases-loop-pad : goal.decreases-loop-pad
decreases-loop-pad l = l.end - l.place
