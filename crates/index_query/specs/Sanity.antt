-- What a reader of the definitions may want to be sure of: when two strings are the same
-- (SPECIFICATION 12.4). The laws of proofs/ that have these types prove them.
use Rattle.std.specs.Prelude.{ℕ, ◌≡◌, true, ◌↔◌, List}
use Rattle.index_query.specs.Matching.{same_bytes}

-- the test says that two lists of bytes are the same exactly if they are
abbrev pub SameExactly : Type 0
SameExactly = (a b : List ℕ) → (same_bytes a b ≡ true) ↔ (a ≡ b)
