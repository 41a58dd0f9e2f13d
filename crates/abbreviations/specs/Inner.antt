-- What only the code needs: what single functions of it answer or leave. A reader of the other files need not
-- know these.
use Rattle.std.specs.Prelude.{ℕ, ◌+◌, Bool, false, cond, eqb, ltb, Option, Some, None, option_map}
use Rattle.reader.specs.Outcome.{Outcome, answered, refused, ◌>>=◌}
use Rattle.reader.specs.Parts.{Section}
use Rattle.reader.specs.Numbers.{read_byte}
use Rattle.abbreviations.specs.declared.NameAbbreviation.{NameAbbreviation}
use Rattle.abbreviations.specs.declared.ReadAttribute.{ReadAttribute}
use Rattle.abbreviations.specs.Abbreviations.{pair, attributes, declaration, abbreviation_of}

-- of a pair that was read at `at`, name and form where each is a number of one byte: the next place is then
-- two bytes on. None stands for all else.
abbrev pub of_two_bytes : ℕ → Outcome ReadAttribute → Option (ℕ × ℕ)
of_two_bytes at (answered p) = cond (eqb p.next (at + 2)) (Some (p.name, p.form)) None
of_two_bytes at (refused n v) = None

-- where the bytes cannot be read, false
abbrev or_false : Outcome Bool → Bool
or_false (answered b) = b
or_false (refused n v) = false

-- a section
module _ (s : Section) where
  -- `short_pair`: the pair at a place, if it is of two bytes
  unfoldable pub short_pair : ℕ → ℕ → Option (ℕ × ℕ)
  short_pair at end = of_two_bytes at (pair s at end)

  -- `is_short`: whether two bytes stand at a place that are both from 1 to 127
  unfoldable pub is_short : ℕ → ℕ → Bool
  is_short at end = or_false (do
    a ← read_byte s at end
    b ← read_byte s a.next end
    answered (cond (ltb a.value 1) false (cond (ltb 127 a.value) false (cond (ltb b.value 1) false (ltb b.value 128)))))

  -- `skip_attributes`: the place past the attributes
  unfoldable pub attributes_end : ℕ → ℕ → Outcome ℕ
  attributes_end at end = do
    a ← attributes s at end
    answered a.next

  -- `read_declaration`: one declaration
  unfoldable pub declared : ℕ → ℕ → Outcome (Option NameAbbreviation)
  declared at end = do
    d ← declaration s at end
    answered (option_map abbreviation_of d)
