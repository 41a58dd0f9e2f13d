-- What a reader of the definitions may want to be sure of: a refused query changes no record
-- (SPECIFICATION 2.5). The law of proofs/RefusalLaws.antt that has this type proves it.
use Rattle.std.specs.Prelude.{ℕ, ◌≡◌, List, Err}
use Rattle.reader.specs.Answers.{outcome}
use Rattle.reader.specs.declared.endianity.RunTimeEndian.{RunTimeEndian}
use Rattle.reader.specs.declared.error.Error.{Error}
use Rattle.records.specs.declared.record.Record.{Record}
use Rattle.query.specs.Query.{section_query}
use Rattle.reader.specs.Parts.{Section}

-- a query that is refused leaves the records that it was lent as they were
abbrev pub RefusedUnchanged : Type 0
RefusedUnchanged =
    (order : RunTimeEndian) (s strs : Section) (hash : ℕ) (text : List ℕ) (lent after : List Record) (e : Error)
    → record { answer = outcome (Err e); records = after } ≡ section_query order s strs hash text lent
    → after ≡ lent
