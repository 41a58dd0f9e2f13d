-- `any` answers whether some bucket of the range passes the test, which is the definition (`any_of_range`).
use mathlib.Core.Path.{◌∙◌, refl}
use borrow.Author.Tests.{tests}
use native.Mathlib.Omega.{arith}
use Prim.Native.Nat.{◌+◌}
use Rattle.std.proofs.Common.{rules}
use Rattle.std.proofs.lemmas.Iterator.{YieldsList-from_range}
use Rattle.std.proofs.lemmas.Iterator.Search.{any_from_yields_List}
use lib.Dec.{ltb}
use Rattle.hashes.specs.Table.{nth_of}
use Rattle.tables.proofs.CheckLaws.{any_of_range}
use Rattle.tables.proofs.any_above.Goals as goal

pub returns : goal.returns
returns c =
    let a = c.args in
    any_from_yields_List (λ bucket. ltb (a.names + 1) (nth_of a.order a.section.now a.starts bucket)) _ _ _
    c.any.ensures.ran
    (YieldsList-from_range 0 a.buckets a.buckets refl (omega arith))
    (λ x b q k. search (rules, tests))
    ∙ any_of_range a.names (nth_of a.order a.section.now a.starts) a.buckets
