-- What a reader of the definitions may want to be sure of: a refused query changes no record
-- (SPECIFICATION 2.5). The law of proofs/QueryLaws.antt that has this type proves it.
use Rattle.std.specs.Prelude.{ℕ, ◌≡◌, false, List, eqb}
use Rattle.records.specs.declared.record.Record.{Record}
use Rattle.answers.specs.declared.DebugNamesAnswer.{DebugNamesAnswer}
use Rattle.handles.specs.Handles.{order_of}
use Rattle.exported.specs.Query.{query_answer}

-- a query that hands over a refusal, which is a status other than 0, leaves the records that it was lent as
-- they were
abbrev pub RefusedUnchanged : Type 0
RefusedUnchanged =
    (order hash : ℕ) (s strs text : List ℕ) (lent after : List Record) (t : DebugNamesAnswer)
    → record { answer = t; records = after } ≡ query_answer (order_of order) s strs hash text lent
    → eqb t.status 0 ≡ false
    → after ≡ lent
