-- The type units of an index that fits lie inside a section that is not too long, so their numbers have a sum of 32 bits.
use mathlib.Core.Path.{sym}
use native.Mathlib.Omega.{arith}
use Rattle.reader.proofs.ErrorLaws.{longest_most}
use Rattle.index.proofs.LayoutLaws.{words_least, fitted-answered, type_units_inside}
use Rattle.names.proofs.counts.type_unit_count.Goals as goal

pub overflow_add-result : goal.overflow_add-result
overflow_add-result c =
    let a = c.args in
    let i = a.index in
    let (short, fits, same) = fitted-answered a.section.now i _ (sym c.in_ok-fit.ensures) in
    omega (
      arith,
      longest_most,
      type_units_inside a.section.now i fits,
      words_least i.format i.local_type_unit_count,
    )
