-- What a call answers: a value, or a refusal with its number and the one value that it carries
-- (SPECIFICATION 1.5 and 2.1). In a `do` block `x ← m` gives the name x to what m answers; the first line
-- that is refused is the outcome of the whole block (SPECIFICATION 2.4).
-- How to read a definition: `f : A → B` says what it takes and what it gives, and the lines below what it
-- equals. `[]` is the empty list, `a ∷ l` the list l with a before it, `l ++ m` one list behind the other,
-- and `λ x. e` a function of x; `Some a` and `None` are something and nothing. `unfoldable`, `abbrev` and
-- `pub` say nothing of what a definition answers. `record { f = v }` is a struct with these fields, `x.f` the
-- field f of x, and `record x { f = v }` is x with another f; a struct of one number, as the number of a name
-- is, has the field `0`. `let x : A = v in` names a value. In theorems `a ≡ b` says that they are equal,
-- `P × Q` that both hold, `P ⊎ Q` that one of them does, `P ↔ Q` that each follows from the other, `P → Q` that
-- Q follows from P, `(x : A) → P` that P holds of every x, and `(x : A) × P` that there is an x with P.
-- What the definitions of all crates take from the library: `ltb a b`, `leb a b` and `eqb a b` test whether a
-- is below b, at most b and equal to b; `cond t x y` is x where the test t holds, and y where it does not;
-- `take n l`, `drop n l` and `slice m n l` are the first n elements of a list, those after the first n, and
-- those from m up to n; `get_or l n d` is the one at n, or d past the end. Numbers have no largest one, so no
-- sum wraps; a difference stops at 0.
use Rattle.std.specs.Prelude.{ℕ, Bool, true, false}

pub data Outcome (A : Type 0) : Type 0 where
  answered : A → Outcome A
  refused : ℕ → ℕ → Outcome A

infixl 10 ◌>>=◌
infixl 10 ◌>>◌
-- the next line of a `do` block, where the line before it was answered; a refusal is the outcome of the whole
-- block
abbrev pub ◌>>=◌ : {A B : Type 0} → Outcome A → (A → Outcome B) → Outcome B
◌>>=◌ (answered a) f = f a
◌>>=◌ (refused n v) f = refused n v

abbrev pub ◌>>◌ : {A B : Type 0} → Outcome A → Outcome B → Outcome B
◌>>◌ (answered a) m = m
◌>>◌ (refused n v) m = refused n v

-- goes on where the test holds, and refuses where it does not
abbrev pub demand : Bool → ℕ → ℕ → Outcome (Unit {0})
demand true n v = answered tt
demand false n v = refused n v

-- refuses where the test holds, and goes on where it does not
abbrev pub refuse_if : Bool → ℕ → ℕ → Outcome (Unit {0})
refuse_if true n v = refused n v
refuse_if false n v = answered tt
