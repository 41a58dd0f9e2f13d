-- Steps of a cursor (SPECIFICATION 1.6 and 2.6). A step takes a cursor and answers the next thing of a list,
-- the end (none), or a refusal; in each case it hands back the cursor after it. Where it is refused with 13
-- or 14, that is the cursor that it was given (but in a listing, SPECIFICATION 13.3).
-- Steps are linked if the first is given a cursor `c`, and each next one the cursor that the step before it
-- handed back (SPECIFICATION 14.3). Their answers list what is expected, in order, if those up to the first
-- end are its beginning, without a gap, and the first end is the first step before which all of it is
-- answered (SPECIFICATION 14.4).
use Rattle.std.specs.Prelude.{◌≡◌, List, [], ◌∷◌, length, map, take, ltb, Bool, true, false, Option, Some, None, Result}
use Rattle.reader.specs.Outcome.{Outcome, answered, refused}
use Rattle.reader.specs.Answers.{outcome}
use Rattle.reader.specs.declared.error.Error.{Error}
use Rattle.reader.specs.declared.step.Step.{Step as Given}

-- what a step answers, none at the end, and the cursor after it
pub record Step (A C : Type 0) : Type 0 where
  pub answer : Outcome (Option A)
  pub cursor : C

-- a step whose tests refuse leaves the cursor as it was
abbrev pub keeping : {A C : Type 0} → C → Outcome (Step A C) → Step A C
keeping c (answered t) = t
keeping c (refused n v) = record { answer = refused n v; cursor = c }

-- the step that the code has taken where it gave this answer and left this cursor
abbrev pub step_of : {A C : Type 0} → Result (Option A) Error → C → Step A C
step_of answer cursor = record { answer = outcome answer; cursor = cursor }

-- a step as the code takes it: its struct `Step`, here by another name, since `Step` is the definitions' own
abbrev pub Taken : Type 0 → Type 0 → Type 0
Taken A C = Given A C

-- A list of steps of the code that are linked: each is what the step says of a cursor, the first of the
-- cursor c, and each next of the cursor that the one before it left.
pub data Linked {A C : Type 0} (step : C → Step A C) : C → List (Taken A C) → Type 0 where
  no_steps : {c : C} → Linked step c []
  step_then : {c : C} {t : Taken A C} {ts : List (Taken A C)} → step_of t.answer t.cursor ≡ step c → Linked step t.cursor ts
      → Linked step c (t ∷ ts)

-- what steps answered
abbrev pub answers : {A C : Type 0} → List (Taken A C) → List (Outcome (Option A))
answers ts = map (λ t. outcome t.answer) ts

-- whether an end is among the answers
unfoldable pub has_end : {A : Type 0} → List (Outcome (Option A)) → Bool
has_end [] = false
has_end (answered None ∷ os) = true
has_end (answered (Some a) ∷ os) = has_end os
has_end (refused n v ∷ os) = has_end os

-- the answers up to the first end
unfoldable pub up_to_end : {A : Type 0} → List (Outcome (Option A)) → List (Outcome (Option A))
up_to_end [] = []
up_to_end (answered None ∷ os) = []
up_to_end (answered (Some a) ∷ os) = answered (Some a) ∷ up_to_end os
up_to_end (refused n v ∷ os) = refused n v ∷ up_to_end os

-- Demand 3, of the answers of a list of steps and what their lookup has to list. The answers up to the first
-- end are its beginning, in order and without a gap: as many as there are steps, or all of it. And the first
-- end is the first step before which all of it is answered: there is an end exactly if there are more steps
-- than it has elements.
abbrev pub ListsInOrder : {A : Type 0} → List (Outcome (Option A)) → List (Outcome (Option A)) → Type 0
ListsInOrder answers expected =
    (up_to_end answers ≡ take (length answers) expected) × (has_end answers ≡ ltb (length expected) (length answers))
