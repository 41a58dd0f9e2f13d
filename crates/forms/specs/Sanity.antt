-- What a reader of the definitions, and the crates above, may want to be sure of: a value that is read stays
-- inside its part (SPECIFICATION 9.3). The laws of proofs/FormLaws.antt that have these types prove them.
use Rattle.std.specs.Prelude.{ℕ, ◌≤◌, ◌≡◌}
use Rattle.reader.specs.Outcome.{answered}
use Rattle.reader.specs.Parts.{Section, part_end}
use Rattle.reader.specs.declared.endianity.RunTimeEndian.{RunTimeEndian}
use Rattle.forms.specs.Forms.{form_value}
use Rattle.reader.specs.declared.reader.Read.{Read}
use Rattle.forms.specs.declared.NameAttributeValue.{NameAttributeValue}

-- a value that is read inside a part does not go back and stays inside; it may take no byte, as a
-- flag_present does
abbrev pub ValuesOnward : Type 0
ValuesOnward =
    (form : ℕ) (order : RunTimeEndian) (s : Section) (at end : ℕ) (v : (Read NameAttributeValue)) → at ≤ part_end s end
    → form_value form order s at end ≡ answered v
    → (at ≤ v.next) × (v.next ≤ part_end s end)
