-- Where the part has the bytes they are read; a number has bytes, so that then its place lies in the section.
use native.Mathlib.Omega.{arith}
use Rattle.reader.proofs.NumberLaws.{number_read}
use Rattle.reader.proofs.reader.read_number.Goals as goal

pub at-requires : goal.at-requires
at-requires g c = let some = g.met.N.Number.has_bytes in omega arith

pub returns : goal.returns
returns g c =
    let a = c.args in
    let some = g.met.N.Number.has_bytes in
    rw (number_read g.N.Number.SIZE a.order a.s.now a.at a.end (omega arith), ← c.at.ensures, ← c.SIZE-2.ensures)
