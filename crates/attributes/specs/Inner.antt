-- What only the code needs: what single functions of it answer or leave. A reader of the other files need not
-- know these.
use Rattle.std.specs.Prelude.{ℕ, zero, suc, ◌≡◌, cond, [], eqb}
use Rattle.reader.specs.Outcome.{Outcome, answered, ◌>>=◌}
use Rattle.reader.specs.Parts.{left_at}
use Rattle.reader.specs.declared.endianity.RunTimeEndian.{RunTimeEndian}
use Rattle.abbreviations.specs.Abbreviations.{Attributes, pair, attributes}
use Rattle.forms.specs.Forms.{form_value}
use Rattle.attributes.specs.declared.facts.Facts.{Facts}
use Rattle.reader.specs.declared.reader.Read.{Read}
use Rattle.reader.specs.Errors.{refusal}
use Rattle.reader.specs.declared.error.Error.TheVariants.{UnexpectedEof}
use Rattle.reader.specs.Parts.{Section}
use Rattle.attributes.specs.Attributes.{Values, values, facts, value_then}

-- What single functions of the code answer, for any places. The values, where the pairs of name and form are
-- read from `pairs` on as they are needed: a pair that is refused gives its refusal when its turn comes. For
-- the pairs of a declaration, which can all be read, this is `values` (`values-declared`). Given as many
-- turns as bytes are left of the pairs, it has turns enough (`turn_step`).
unfoldable pub values_in : ℕ → RunTimeEndian → Section → ℕ → ℕ → ℕ → ℕ → Outcome Values
values_in zero order s pairs pairsEnd at end = refusal (UnexpectedEof pairs)
values_in (suc turns) order s pairs pairsEnd at end = do
  p ← pair s pairs pairsEnd
  let more : ℕ → Outcome Values = λ next. values_in turns order s p.next pairsEnd next end
  cond (eqb p.name 0) (answered (record { list = []; next = at })) (do
    v ← form_value p.form order s at end
    rest ← more v.next
    answered (value_then p.name p.form v.value rest))

-- a section, in its byte order
module _ (order : RunTimeEndian) (s : Section) where
  -- the same, with turns enough
  unfoldable pub values_from : ℕ → ℕ → ℕ → ℕ → Outcome Values
  values_from pairs pairsEnd at end = values_in (left_at s pairs pairsEnd) order s pairs pairsEnd at end

  -- the facts of these, and the place past them
  unfoldable pub facts_read : ℕ → ℕ → ℕ → ℕ → Outcome (Read Facts)
  facts_read pairs pairsEnd at end = do
    v ← values_from pairs pairsEnd at end
    answered (record { value = facts v.list; next = v.next })

-- where the pairs of a declaration can all be read, reading them as they are needed is reading the values of
-- its attributes
abbrev pub ValuesDeclared : Type 0
ValuesDeclared =
    (order : RunTimeEndian) (s : Section) (pairs pairsEnd : ℕ) (a : Attributes) (at end : ℕ) → attributes s pairs pairsEnd ≡ answered a
    → values_from order s pairs pairsEnd at end ≡ values order s a.list at end
