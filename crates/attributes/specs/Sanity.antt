-- What a reader of the definitions, and the crates above, may want to be sure of: how the values of an entry
-- are read, that they stay inside their part, and when there is a first attribute of a name
-- (SPECIFICATION 9.2 and 9.8). The laws of proofs/AttributeLaws.antt that have these types prove them.
use Rattle.std.specs.Prelude.{ℕ, ◌≤◌, ◌≡◌, Bool, true, false, List, map, Option, Some, None}
use Rattle.reader.specs.Outcome.{answered}
use Rattle.reader.specs.Parts.{Section, part_end}
use Rattle.reader.specs.Lists.{memberb}
use Rattle.reader.specs.declared.endianity.RunTimeEndian.{RunTimeEndian}
use Rattle.abbreviations.specs.Abbreviations.{Attribute}
use Rattle.attributes.specs.declared.attribute.FirstAttribute.{FirstAttribute}
use Rattle.attributes.specs.Attributes.{NameAttribute, Values, values, first}

-- the values of an entry that begin inside a part do not go back and stay inside
abbrev pub EntryValuesOnward : Type 0
EntryValuesOnward =
    (order : RunTimeEndian) (s : Section) (list : List Attribute) (at end : ℕ) (v : Values) → at ≤ part_end s end
    → values order s list at end ≡ answered v
    → (at ≤ v.next) × (v.next ≤ part_end s end)

-- whether there is a first attribute of a name, in any form
abbrev pub stands : Option FirstAttribute → Bool
stands None = false
stands (Some a) = true

-- there is one exactly if the name is among those of the entry's attributes
abbrev pub StandsExactly : Type 0
StandsExactly = (name : ℕ) (list : List NameAttribute) → stands (first name list) ≡ memberb name (map (λ a. a.name) list)
