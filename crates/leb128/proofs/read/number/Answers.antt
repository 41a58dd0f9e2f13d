-- A byte that does not end the number goes from what is still to be read to what was read.
use mathlib.Core.Path.{◌∙◌}
use native.Mathlib.Omega.{arith}
use Rattle.std.proofs.lemmas.Grind.{common_steps}
use Rattle.leb128.proofs.Leb128Limits.{byte-more}
use Rattle.leb128.proofs.read.number.Goals as goal

pub loop-preserved : goal.loop-preserved
loop-preserved g c = record {
  whole = c.loop.invariant.whole ∙ byte-more _ _ _ _ _ _ _ _ (omega arith) c.in_ok-byte.ensures c.if-byte-lt128.false;
  scale = grind (arith, common_steps);
  room = grind arith;
}
