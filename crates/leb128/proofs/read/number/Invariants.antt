-- At every turn the whole number is what was read, and `scale` times what is still to be read.
use Prim.Native.Nat.{◌*◌, ◌-◌, ◌^◌, ◌<◌}
use mathlib.Core.Path.{◌≡◌}
use Rattle.leb128.specs.Leb128.{leb128}
use Rattle.leb128.proofs.Leb128Laws.{scaled}
use Rattle.leb128.proofs.read.number.Given as goal

abbrev pub invariant-loop : goal.invariant-loop
invariant-loop g l = record {
  whole : leb128 g.row.BITS l.s l.at l.end-2 ≡ scaled l.value l.scale (leb128 (g.row.BITS - 7 * l.counter) l.s l.place l.end-2);
  scale : l.scale ≡ 128 ^ l.counter;
  room : l.value < l.scale;
}
