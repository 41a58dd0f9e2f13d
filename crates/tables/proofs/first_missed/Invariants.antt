-- Each turn passes a name that its segment says is reached (`missed_here`), so that no name before is missed.
use mathlib.Core.Path.{◌≡◌}
use Rattle.index.specs.Layout.{parts}
use Rattle.tables.specs.Check.{missed_names}
use Rattle.tables.proofs.CheckLaws.{walked, missed_from}
use Rattle.tables.proofs.first_missed.Given as goal

abbrev pub invariant-loop-name : goal.invariant-loop-name
invariant-loop-name l =
    (l.starts ≡ (parts l.index).bucket_data)
    × (l.hashes ≡ (parts l.index).hash_table_data)
    × (l.segment ≡ walked l.order l.section l.index l.name)
    × (missed_names l.order l.section l.index ≡ missed_from l.order l.section l.index l.name)
