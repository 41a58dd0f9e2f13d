-- Each turn counts one name by its segment (`missed_here`): the count is what is kept of the names that were missed before.
use mathlib.Core.Path.{◌≡◌}
use Rattle.index.specs.Layout.{parts}
use Rattle.tables.proofs.CheckLaws.{walked, kept_before}
use Rattle.tables.proofs.check_table_in.Given as goal

abbrev pub invariant-loop-name : goal.invariant-loop-name
invariant-loop-name l =
    (l.starts ≡ (parts l.index).bucket_data)
    × (l.hashes ≡ (parts l.index).hash_table_data)
    × (l.segment ≡ walked l.order l.section l.index l.name)
    × (l.count ≡ kept_before l.order l.section l.index l.name)
