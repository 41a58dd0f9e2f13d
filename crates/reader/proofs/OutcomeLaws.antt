-- Laws of outcomes: what an answered chain says of its lines.
use Prim.Native.Nat.{ℕ}
use mathlib.Core.Path.{◌≡◌, refl, ap, ◌∙◌}
use mathlib.Core.Bool.{Bool, true, false, cond}
use mathlib.Core.Logic.{◌⊎◌, inl, inr}
use Rattle.std.specs.Prelude.{Option, Some, None}
use native.Mathlib.Omega.{arith}
use Rattle.reader.specs.Outcome.{Outcome, answered, refused, ◌>>=◌, ◌>>◌, demand, refuse_if}

pub refused-answered : {A : Type 0} {n v : ℕ} {a : A} → refused n v ≡ answered a → ⊥
refused-answered e = let z : ◌≡◌ {A = ℕ} 0 1 = cc in omega arith

pub same_answer : {A : Type 0} {a b : A} → answered a ≡ answered b → a ≡ b
same_answer e = cc

-- no item is not an item, and equal items are one
pub none-ne-some : {A : Type 0} (a : A) → ◌≡◌ {A = Option A} None (Some a) → ⊥
none-ne-some a e = let z : ◌≡◌ {A = ℕ} 0 1 = cc in omega arith

pub some-injective : {A : Type 0} (a b : A) → ◌≡◌ {A = Option A} (Some a) (Some b) → a ≡ b
some-injective a b e = cc

-- a chain that is answered went on from an answer
pub bind_answered : {A B : Type 0} (m : Outcome A) (f : A → Outcome B) (b : B) → (m >>= f) ≡ answered b → (a : A) × (m ≡ answered a) × (f a ≡ answered b)
bind_answered (answered a) f b e = (a, refl, e)
bind_answered (refused n v) f b e = absurd (refused-answered e)

-- the same with what follows from it as an argument: for chains of many lines, where it is checked in less time
pub answered_then : {A B : Type 0} (m : Outcome A) (f : A → Outcome B) (b : B) (P : Type 0) → ((a : A) → m ≡ answered a → f a ≡ answered b → P) → (m >>= f) ≡ answered b → P
answered_then (answered a) f b P k e = k a refl e
answered_then (refused n v) f b P k e = absurd (refused-answered e)

-- the same where the line's answer is not used
pub then_answered : {A B : Type 0} (m : Outcome A) (k : Outcome B) (b : B) → (m >> k) ≡ answered b → (a : A) × (m ≡ answered a) × (k ≡ answered b)
then_answered (answered a) k b e = (a, refl, e)
then_answered (refused n v) k b e = absurd (refused-answered e)

-- a test that let the chain go on
pub demanded : (t : Bool) (n v : ℕ) (u : Unit {0}) → demand t n v ≡ answered u → t ≡ true
demanded true n v u e = refl
demanded false n v u e = absurd (refused-answered e)

pub passed : (t : Bool) (n v : ℕ) (u : Unit {0}) → refuse_if t n v ≡ answered u → t ≡ false
passed true n v u e = absurd (refused-answered e)
passed false n v u e = refl

-- a choice is one of its two sides
pub cond_is : {A : Type 0} (t : Bool) (x y : A) (z : A) → cond t x y ≡ z → ((t ≡ true) × (x ≡ z)) ⊎ ((t ≡ false) × (y ≡ z))
cond_is true x y z e = inl (refl, e)
cond_is false x y z e = inr (refl, e)

-- a choice whose other side refuses is answered on this side
pub cond-answered : {A : Type 0} (t : Bool) (m : Outcome A) (n v : ℕ) (a : A) → cond t m (refused n v) ≡ answered a → (t ≡ true) × (m ≡ answered a)
cond-answered true m n v a e = (refl, e)
cond-answered false m n v a e = absurd (refused-answered e)

-- two chains are the same where they go on in the same way from the answer
pub bind_same : {A B : Type 0} (m : Outcome A) (f g : A → Outcome B) → ((a : A) → m ≡ answered a → f a ≡ g a) → (m >>= f) ≡ (m >>= g)
bind_same (answered a) f g h = h a refl
bind_same (refused n v) f g h = refl

-- the same where the first lines differ and are equal
pub bind_both : {A B : Type 0} (m k : Outcome A) (f g : A → Outcome B) → m ≡ k → ((a : A) → m ≡ answered a → f a ≡ g a) → (m >>= f) ≡ (k >>= g)
bind_both m k f g e h = bind_same m f g h ∙ ap (λ o. o >>= g) e

-- a chain of chains is one chain
pub bind_assoc : {A B C : Type 0} (m : Outcome A) (f : A → Outcome B) (g : B → Outcome C) → ((m >>= f) >>= g) ≡ (m >>= λ a. f a >>= g)
bind_assoc (answered a) f g = refl
bind_assoc (refused n v) f g = refl
