-- Theorems over several calls, and what a reader of the definitions may want to be sure of: the steps over
-- the names answer all of them, in order, and then the end (SPECIFICATION 7.5). The laws of
-- proofs/NameLaws.antt that have these types prove them.
use Rattle.std.specs.Prelude.{ℕ, ◌≤◌, ◌≡◌, List, ◌++◌, map, length, take, replicate}
use Rattle.std.specs.Prelude.{Option, Some, None}
use Rattle.reader.specs.Outcome.{Outcome, answered}
use Rattle.reader.specs.Errors.{longest}
use Rattle.reader.specs.Steps.{Linked, answers, Taken}
use Rattle.reader.specs.Lists.{numbers_from}
use Rattle.reader.specs.declared.common.NameTableIndex.{NameTableIndex}
use Rattle.index.specs.declared.layout.NameIndex.{NameIndex}
use Rattle.index.specs.Layout.{Fits}
use Rattle.names.specs.Names.{first_name, name_step}
use Rattle.names.specs.declared.table.NameTableIter.{NameTableIter}
use Rattle.reader.specs.Parts.{Section}

-- a name of that number, and the end, as a step answers them
abbrev pub named : ℕ → Outcome (Option NameTableIndex)
named k = answered (Some (record { 0 = k }))

abbrev pub the_end : Outcome (Option NameTableIndex)
the_end = answered None

-- The names of an index that fits: whatever number of steps is made from `names`, each given the cursor that
-- the one before it handed back, their answers are the numbers 0 to N-1 in order, and then the end, again and
-- again.
abbrev pub NamesInOrder : Type 0
NamesInOrder =
    (s : Section) (i : NameIndex) (rs : List (Taken NameTableIndex NameTableIter)) → length s ≤ longest → Fits s i
    → Linked (name_step s i) first_name rs
    → answers rs ≡ take (length rs) (map named (numbers_from 0 i.name_count) ++ replicate (length rs) the_end)
