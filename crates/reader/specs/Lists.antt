-- Numbers in order, as names, units and buckets are counted (SPECIFICATION 1.2), and what is taken of a list
-- by a test: all elements for which it holds, or those before the first for which it does not.
use Rattle.std.specs.Prelude.{ℕ, zero, suc, ◌+◌, Bool, true, false, cond, List, [], ◌∷◌, eqb}

-- the n numbers from k on
unfoldable pub numbers_from : ℕ → ℕ → List ℕ
numbers_from k zero = []
numbers_from k (suc n) = k ∷ numbers_from (k + 1) n

-- the elements for which the test holds, in order
unfoldable pub filterb : {A : Type 0} → (A → Bool) → List A → List A
filterb test [] = []
filterb test (a ∷ rest) = cond (test a) (a ∷ filterb test rest) (filterb test rest)

-- the elements before the first for which it does not hold
unfoldable pub take_while : {A : Type 0} → (A → Bool) → List A → List A
take_while test [] = []
take_while test (a ∷ rest) = cond (test a) (a ∷ take_while test rest) []

-- whether a number is in a list
unfoldable pub memberb : ℕ → List ℕ → Bool
memberb n [] = false
memberb n (m ∷ ms) = cond (eqb n m) true (memberb n ms)
