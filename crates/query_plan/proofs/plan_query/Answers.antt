-- The records after the first are fewer than 2^64 (`left_small`), and so is their number with the first.
use native.Mathlib.Omega.{arith}
use Rattle.query_plan.proofs.PlanLaws.{left_small, one_item, counted_items}
use Rattle.query_plan.proofs.plan_query.Goals as goal

pub count_from-requires : goal.count_from-requires
count_from-requires c =
    let a = c.args in
    grind (arith, one_item, left_small a.order a.section.now a.strings.now a.hash a.name.now)

pub overflow_add-result : goal.overflow_add-result
overflow_add-result c =
    let a = c.args in
    grind (arith, one_item, counted_items, left_small a.order a.section.now a.strings.now a.hash a.name.now)

pub overflow_add-result-in-Ok : goal.overflow_add-result-in-Ok
overflow_add-result-in-Ok c =
    let a = c.args in
    grind (arith, one_item, counted_items, left_small a.order a.section.now a.strings.now a.hash a.name.now)
