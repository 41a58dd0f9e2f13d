-- The outcome that each answer of the code stands for (SPECIFICATION 1.5 and 2.1). Equal outcomes of
-- `outcome` mean equal answers: what is answered is taken as it is, and refusals are told apart by number and
-- value (`error_same`). Of `outcome_as` that holds as far as `shown` tells answers apart.
use Rattle.std.specs.Prelude.{Result, Ok, Err}
use Rattle.reader.specs.Outcome.{Outcome, answered}
use Rattle.reader.specs.Errors.{refusal}
use Rattle.reader.specs.declared.error.Error.{Error}

-- an answer as it is, and a refusal by its number and value
abbrev pub outcome : {A : Type 0} → Result A Error → Outcome A
outcome (Ok a) = answered a
outcome (Err e) = refusal e

-- the same where the definition shows the answer in another form
abbrev pub outcome_as : {A B : Type 0} → (A → B) → Result A Error → Outcome B
outcome_as shown (Ok a) = answered (shown a)
outcome_as shown (Err e) = refusal e
