-- Laws of steps: what each step has to answer makes what a list of them answers (demand 3).
use Prim.Native.Nat.{ℕ, suc}
use mathlib.Core.Path.{◌≡◌, refl, sym, ap, ◌∙◌}
use mathlib.Core.Bool.{Bool, true, false}
use mathlib.Core.List.{List, [], ◌∷◌}
use Rattle.std.specs.Prelude.{Option, Some, None}
use native.Mathlib.Omega.{arith}
use lib.ListN.{length}
use lib.Dec.{ltb}
use borrow.Author.Tests.{lt-ltb, le-ltb, ltb-true, ltb-false}
use Rattle.reader.specs.Outcome.{Outcome, answered, refused}
use Rattle.reader.specs.Steps.{Step, Taken, step_of, Linked, no_steps, step_then, answers, has_end, up_to_end, ListsInOrder}

-- What the step of a cursor has to answer, where `rest` is what is left to list: the end where nothing is, else its first element, with
-- a cursor for what is left after it. A step gives something of any type R, of which `said` is the answer and `after` the cursor after it.
pub data NextBy {A C R : Type 0} (said : R → Outcome (Option A)) (after : R → C) (step : C → R) (good : C → Type 0) (rest : C → List (Outcome (Option A))) (c : C) : Type 0 where
  at-end : rest c ≡ [] → said (step c) ≡ answered None → NextBy said after step good rest c
  gives_item : (a : A) → rest c ≡ answered (Some a) ∷ rest (after (step c)) → said (step c) ≡ answered (Some a) → good (after (step c)) → NextBy said after step good rest c
  gives_refusal : (n v : ℕ) → rest c ≡ refused n v ∷ rest (after (step c)) → said (step c) ≡ refused n v → good (after (step c)) → NextBy said after step good rest c

-- the same of a `Step`
abbrev pub Next : {A C : Type 0} → (C → Step A C) → (C → Type 0) → (C → List (Outcome (Option A))) → C → Type 0
Next step good rest c = NextBy (λ s. s.answer) (λ s. s.cursor) step good rest c

ltb_suc : (a b : ℕ) → ltb a b ≡ ltb (suc a) (suc b)
ltb_suc a b = by_cases (ltb a b) refl
  where
    by_cases : (t : Bool) → ltb a b ≡ t → ltb a b ≡ ltb (suc a) (suc b)
    by_cases true e =
        let below = ltb-true a b e in
        e ∙ sym (lt-ltb (suc a) (suc b) (omega arith))
    by_cases false e =
        let above = ltb-false a b e in
        e ∙ sym (le-ltb (suc a) (suc b) (omega arith))

-- an answer before others that list what is expected
item_then : {A : Type 0} (a : A) (os expected : List (Outcome (Option A))) → ListsInOrder os expected → ListsInOrder (answered (Some a) ∷ os) (answered (Some a) ∷ expected)
unfolding has_end up_to_end
item_then a os expected (same, end) = (ap (λ l. answered (Some a) ∷ l) same, end ∙ ltb_suc (length expected) (length os))

refusal_then : {A : Type 0} (n v : ℕ) (os expected : List (Outcome (Option A))) → ListsInOrder os expected → ListsInOrder (refused n v ∷ os) (refused n v ∷ expected)
unfolding has_end up_to_end
refusal_then n v os expected (same, end) = (ap (λ l. refused n v ∷ l) same, end ∙ ltb_suc (length expected) (length os))

end-first : {A : Type 0} (os : List (Outcome (Option A))) → ListsInOrder (answered None ∷ os) []
unfolding has_end up_to_end
end-first os = (refl, sym (lt-ltb 0 (suc (length os)) (omega arith)))

pub no_answers : {A : Type 0} (expected : List (Outcome (Option A))) → ListsInOrder [] expected
unfolding has_end up_to_end
no_answers expected = (refl, sym (le-ltb (length expected) 0 (omega arith)))

-- if the step of a good cursor answers what it has to, and answers after it list what is left after it, then all of them list what is left
pub step_lists : {A C R : Type 0} (said : R → Outcome (Option A)) (after : R → C) (step : C → R) (good : C → Type 0) (rest : C → List (Outcome (Option A))) (c : C) (r : R) (os : List (Outcome (Option A)))
    → NextBy said after step good rest c → r ≡ step c → (good (after r) → ListsInOrder os (rest (after r))) → ListsInOrder (said r ∷ os) (rest c)
step_lists said after step good rest c r os (at-end left answer) is more = rw (is, answer, left) (end-first os)
step_lists said after step good rest c r os (gives_item a left answer ready) is more =
    rw (is, answer, left) (item_then a os (rest (after (step c))) (rw (sym is) (more (rw is ready))))
step_lists said after step good rest c r os (gives_refusal n v left answer ready) is more =
    rw (is, answer, left) (refusal_then n v os (rest (after (step c))) (rw (sym is) (more (rw is ready))))

-- if each step of a good cursor answers what it has to, linked steps list what is expected from the first cursor on
module _ {A C : Type 0} (step : C → Step A C) (good : C → Type 0) (rest : C → List (Outcome (Option A))) (each : (c : C) → good c → Next step good rest c) where
  pub steps_list : (ts : List (Taken A C)) (c : C) → good c → Linked step c ts → ListsInOrder (answers ts) (rest c)
  steps_list [] c fits no_steps = no_answers (rest c)
  steps_list (t ∷ ts) c fits (step_then is linked) =
      step_lists (λ s. s.answer) (λ s. s.cursor) step good rest c (step_of t.answer t.cursor) (answers ts) (each c fits) is (λ ready. steps_list ts t.cursor ready linked)
