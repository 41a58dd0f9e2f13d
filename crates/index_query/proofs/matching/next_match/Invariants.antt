-- The names that match from a number on are decided by the next candidate or by those after it (`matches_name`), and each turn leaves one candidate fewer.
use mathlib.Core.Path.{◌≡◌}
use lib.ListN.{length}
use Rattle.index_query.specs.Inner.{candidates_from}
use Rattle.index_query.specs.Inner.{matches_from}
use Rattle.index_query.proofs.matching.next_match.Given as goal

abbrev pub invariant-loop-candidate : goal.invariant-loop-candidate
invariant-loop-candidate l = matches_from l.order l.section l.strings l.hash l.name l.p l.from ≡ matches_from l.order l.section l.strings l.hash l.name l.p l.at

abbrev pub decreases-loop-candidate : goal.decreases-loop-candidate
decreases-loop-candidate l = length (candidates_from l.order l.section l.hash l.p l.at)
