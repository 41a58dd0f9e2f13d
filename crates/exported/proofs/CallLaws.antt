-- Lists of exported steps: what the step of each cursor has to tell makes what a list of them tells.
use Prim.Native.Nat.{ℕ}
use mathlib.Core.Path.{◌≡◌, sym}
use mathlib.Core.List.{List, [], ◌∷◌, map}
use native.Mathlib.Omega.{arith}
use Rattle.std.specs.Prelude.{Option}
use Rattle.reader.specs.Outcome.{Outcome, answered, refused}
use Rattle.reader.specs.Steps.{ListsInOrder}
use Rattle.reader.proofs.OutcomeLaws.{refused-answered}
use Rattle.reader.proofs.StepLaws.{NextBy, no_answers, step_lists}
use Rattle.exported.specs.Demand3.{LinkedCalls, no_calls, call_then}

-- if each step of a good cursor tells what it has to, linked steps list what is expected from the first cursor on
module _ {A C T : Type 0} (said : T → Outcome (Option A)) (next : T → C) (call : C → T) (good : C → Type 0) (rest : C → List (Outcome (Option A))) (each : (c : C) → good c → NextBy said next call good rest c) where
  pub calls_list : (ts : List T) (c : C) → good c → LinkedCalls call next c ts → ListsInOrder (map said ts) (rest c)
  calls_list [] c fits no_calls = no_answers (rest c)
  calls_list (t ∷ ts) c fits (call_then is linked) =
      step_lists said next call good rest c t (map said ts) (each c fits) is (λ ready. calls_list ts (next t) ready linked)

-- no refusal stands in a list of names
pub never_refused : {A B : Type 0} (item : B → Option A) (names : List B) (n v : ℕ) (others : List (Outcome (Option A)))
    → map (λ name. answered (item name)) names ≡ refused n v ∷ others → ⊥
never_refused item [] n v others e = let z : ◌≡◌ {A = ℕ} 0 1 = cc in omega arith
never_refused item (name ∷ names) n v others e =
    let first : answered (item name) ≡ refused n v = cc in
    refused-answered (sym first)
