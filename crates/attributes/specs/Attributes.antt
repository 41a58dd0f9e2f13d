-- The attributes of an entry (SPECIFICATION 9.2, step 3, and 9.8; DWARF 5, 6.1.1.4.8). `s` is the section;
-- values are read from the place `at` on, in a part that ends at `end`. For each attribute that the
-- declaration names, in turn, the value is read in its form, and begins where the last one ended. A refusal
-- at any attribute is the answer, whatever the attribute's name is. Of each of the five names that say
-- something (compile unit, type unit, DIE offset, parent, type hash) the first attribute is kept, with its
-- form and its value, also where the form is a wrong one; an attribute of any other name tells nothing.
-- DWARF 5 has an attribute of a name once; where there are several, the first decides, as in gimli.
use Rattle.std.specs.Prelude.{ℕ, cond, List, [], ◌∷◌, eqb, Option, Some, None}
use Rattle.reader.specs.Outcome.{Outcome, answered, ◌>>=◌}
use Rattle.reader.specs.declared.endianity.RunTimeEndian.{RunTimeEndian}
use Rattle.abbreviations.specs.Abbreviations.{Attribute}
use Rattle.forms.specs.declared.NameAttributeValue.{NameAttributeValue}
use Rattle.forms.specs.Forms.{form_value}
use Rattle.attributes.specs.declared.attribute.FirstAttribute.{FirstAttribute}
use Rattle.attributes.specs.declared.facts.Facts.{Facts}
use Rattle.reader.specs.Parts.{Section}

-- an attribute: its name, its form and its value
pub record NameAttribute : Type 0 where
  pub name : ℕ
  pub form : ℕ
  pub value : NameAttributeValue

-- attributes with their values, in order, and the place past the last value
pub record Values : Type 0 where
  pub list : List NameAttribute
  pub next : ℕ

-- an attribute before others
abbrev pub value_then : ℕ → ℕ → NameAttributeValue → Values → Values
value_then name form value rest = record { list = record { name = name; form = form; value = value } ∷ rest.list; next = rest.next }

-- what is kept of an attribute: its form and its value
abbrev pub kept : ℕ → NameAttributeValue → FirstAttribute
kept form value = record { form = form; value = value }

-- the first attribute of a name, if there is one
unfoldable pub first : ℕ → List NameAttribute → Option FirstAttribute
first name [] = None
first name (a ∷ more) = cond (eqb a.name name) (Some (kept a.form a.value)) (first name more)

-- the five names
abbrev pub compile_unit_name : ℕ
compile_unit_name = 1

abbrev pub type_unit_name : ℕ
type_unit_name = 2

abbrev pub die_offset_name : ℕ
die_offset_name = 3

abbrev pub parent_name : ℕ
parent_name = 4

abbrev pub type_hash_name : ℕ
type_hash_name = 5

-- the first attribute of each
unfoldable pub facts : List NameAttribute → Facts
facts list = record {
  compile_unit = first compile_unit_name list;
  type_unit = first type_unit_name list;
  die_offset = first die_offset_name list;
  parent = first parent_name list;
  type_hash = first type_hash_name list;
}

-- a section, in its byte order
module _ (order : RunTimeEndian) (s : Section) where
  -- the values of the attributes that a declaration names, each beginning where the last ended
  unfoldable pub values : List Attribute → ℕ → ℕ → Outcome Values
  values [] at end = answered (record { list = []; next = at })
  values (a ∷ more) at end = do
    v ← form_value a.form order s at end
    rest ← values more v.next end
    answered (value_then a.name a.form v.value rest)
