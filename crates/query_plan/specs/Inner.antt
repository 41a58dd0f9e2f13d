-- What only the code needs: what single functions of it answer or leave. A reader of the other files need not
-- know these.
use Rattle.std.specs.Prelude.{ℕ, ◌≡◌, List, [], ◌∷◌, ◌++◌, take, Option, Some, None, option_to_list, Result}
use Rattle.reader.specs.Answers.{outcome}
use Rattle.reader.specs.Listing.{items_of}
use Rattle.reader.specs.Parts.{Section}
use Rattle.reader.specs.declared.error.Error.{Error}
use Rattle.reader.specs.declared.endianity.RunTimeEndian.{RunTimeEndian}
use Rattle.index.specs.Layout.{parts}
use Rattle.index.specs.Inner.{PartsFit}
use Rattle.records.specs.declared.record.Record.{Record}
use Rattle.section_records.specs.Records.{section_records}
use Rattle.section_records.specs.Inner.{query_left, first_record}
use Rattle.query_plan.specs.declared.Writing.{Writing}
use Rattle.query_plan.specs.declared.Plan.{Plan}
use Rattle.query_plan.specs.Plans.{Queried, queried}

-- a section with its strings, in its byte order, and the name that is asked for, with its hash
module _ (order : RunTimeEndian) (s strs : Section) (hash : ℕ) (text : List ℕ) where
  -- the plan of a query: what is answered, and what there is to write
  unfoldable pub planned : Queried
  planned = queried (section_records order s strs hash text)

  -- what there is left to write, the first record before the others if it is still to be written
  unfoldable pub writing_left : Writing → List Record
  writing_left w = take w.left (option_to_list w.first ++ items_of (query_left order s strs hash text w.cursor))

  -- what the code's plan stands for
  abbrev pub plan_outcome : Plan → Queried
  plan_outcome p = record { answer = outcome p.answer; records = writing_left p.writing }

-- a step gave this record, and these are left to write
abbrev pub write_left : Option Record → List Record → List Record
write_left (Some r) more = r ∷ more
write_left None more = []

-- a plan with nothing to write
abbrev pub nothing_to_write : Result ℕ Error → Plan
nothing_to_write answer = record { answer = answer; writing = record { left = 0; first = None; cursor = first_record } }

-- where something is left to write, the cursor's index fits
abbrev pub Ready : Section → Writing → Type 0
Ready s w = (w.left ≡ 0 → ⊥) → PartsFit s (parts w.cursor.index)
