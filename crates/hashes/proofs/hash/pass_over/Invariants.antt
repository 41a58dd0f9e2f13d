-- The search from the first name on is the search from the name that the loop has come to: each turn ends it or goes on with the next name (`search_ends`, `search_finds`,
-- `search_on`), and past the last name it ends (`search_past`).
use mathlib.Core.Path.{◌≡◌}
use Rattle.hashes.specs.Lookups.{next_storing}
use Rattle.hashes.specs.Table.{nth_of}
use Rattle.hashes.proofs.hash.pass_over.Given as goal

abbrev pub invariant-loop-name : goal.invariant-loop-name
invariant-loop-name l =
    next_storing l.index (nth_of l.order l.section l.table) l.bucket l.hash l.from ≡ next_storing l.index (nth_of l.order l.section l.table) l.bucket l.hash l.name
