-- What stands one after another in a part (declarations, entries, headers), as a list that also tells how it
-- ended: behind its last item, or by a refusal with its number and value in the place of the item that is
-- refused. Each item begins where the one before it ended, and nothing is looked at behind the end or the
-- refusal (SPECIFICATION 8.3, 9.5 and 12.8).
use Rattle.std.specs.Prelude.{ℕ, zero, suc, ◌+◌, ◌≤◌, ◌<◌, ◌≡◌, List, [], ◌∷◌}
use Rattle.std.specs.Prelude.{Option, Some, None, Result, Ok, Err}
use Rattle.reader.specs.Errors.{number_of, value_of}
use Rattle.reader.specs.declared.error.Error.{Error}
use Rattle.reader.specs.Outcome.{Outcome, answered, refused, ◌>>=◌}

pub data Listing (A : Type 0) : Type 0 where
  -- nothing more stands there
  ended : Listing A
  -- what stands there is refused, with the number and the value of SPECIFICATION 2.1
  broken : ℕ → ℕ → Listing A
  -- this, and what follows it
  item : A → Listing A → Listing A

-- what was read, and what follows it
abbrev pub listed : {A : Type 0} → Outcome (Option A) → (A → Listing A) → Listing A
listed (answered None) more = ended
listed (answered (Some a)) more = item a (more a)
listed (refused n v) more = broken n v

-- what `read` gives from the place `at` on, each item beginning where the last ended (`past`), up to the
-- first none or refusal. Given as many turns as bytes are left, it has turns enough (`listing_step`).
unfoldable pub listing : {A : Type 0} → (ℕ → Outcome (Option A)) → (A → ℕ) → ℕ → ℕ → Listing A
listing read past zero at = ended
listing read past (suc turns) at = listed (read at) λ a. listing read past turns (past a)

-- a reading of what stands in a part up to `stop`: each item takes at least a byte and stays inside, and at
-- the stop there is none
pub record Advances {A : Type 0} (read : ℕ → Outcome (Option A)) (past : A → ℕ) (stop : ℕ) : Type 0 where
  pub forward : (at : ℕ) (a : A) → read at ≡ answered (Some a) → (at < past a) × (past a ≤ stop)
  pub none_at_stop : (at : ℕ) → stop ≤ at → read at ≡ answered None

-- where the outcome is answered, what follows from the answer; where it is refused, a list that is broken off
-- at once
abbrev pub or_broken : {A B : Type 0} → Outcome A → (A → Listing B) → Listing B
or_broken (answered a) more = more a
or_broken (refused n v) more = broken n v

-- the same of the code's own answers: after an item what follows from it, after none nothing, and a refusal
-- breaks the list off
abbrev pub left_by : {A B : Type 0} → Result (Option A) Error → (A → Listing B) → Listing B
left_by (Ok (Some a)) more = more a
left_by (Ok None) more = ended
left_by (Err e) more = broken (number_of e) (value_of e)

-- one list after another: where the first is broken off, so is the whole
unfoldable pub followed_by : {A : Type 0} → Listing A → Listing A → Listing A
followed_by ended after = after
followed_by (broken n v) after = broken n v
followed_by (item a rest) after = item a (followed_by rest after)

-- each item as it is shown; the first that cannot be shown breaks the list off
unfoldable pub shown_by : {A B : Type 0} → (A → Outcome B) → Listing A → Listing B
shown_by show ended = ended
shown_by show (broken n v) = broken n v
shown_by show (item a rest) = or_broken (show a) λ b. item b (shown_by show rest)

-- the items that were listed
unfoldable pub items_of : {A : Type 0} → Listing A → List A
items_of ended = []
items_of (broken n v) = []
items_of (item a rest) = a ∷ items_of rest

-- how many items a list has; one that is broken off is refused
unfoldable pub counted : {A : Type 0} → Listing A → Outcome ℕ
counted ended = answered 0
counted (broken n v) = refused n v
counted (item a rest) = do
  n ← counted rest
  answered (1 + n)

-- how many items were listed
unfoldable pub items : {A : Type 0} → Listing A → ℕ
items ended = 0
items (broken n v) = 0
items (item a rest) = suc (items rest)

-- what steps over a listing have to answer: each item in turn, as it is shown, and a refusal last
unfoldable pub answers_of : {A B : Type 0} → (A → B) → Listing A → List (Outcome (Option B))
answers_of shown ended = []
answers_of shown (broken n v) = refused n v ∷ []
answers_of shown (item a rest) = answered (Some (shown a)) ∷ answers_of shown rest
