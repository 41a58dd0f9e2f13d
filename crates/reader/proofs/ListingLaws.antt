-- Laws of listings: what stands first, and what follows it, with no count of turns.
use Prim.Native.Nat.{ℕ, zero, suc, ◌+◌, ◌-◌, ◌≤◌}
use mathlib.Core.Path.{◌≡◌, refl, sym, ◌∙◌, ap}
use mathlib.Core.List.{◌∷◌, ◌++◌}
use Rattle.std.specs.Prelude.{Option, Some, None}
use native.Mathlib.Omega.{arith}
use lib.ListN.{length}
use Rattle.reader.specs.Outcome.{Outcome, answered, refused, ◌>>=◌}
use Rattle.reader.specs.Listing.{Listing, ended, broken, item, listed, listing, or_broken, followed_by, shown_by, items_of, counted, items, Advances}
use Rattle.reader.proofs.OutcomeLaws.{refused-answered, same_answer, bind_answered}

-- listings that begin with the same reading and go on in the same way are the same
pub listed_same : {A : Type 0} (o : Outcome (Option A)) (f g : A → Listing A) → ((a : A) → o ≡ answered (Some a) → f a ≡ g a) → listed o f ≡ listed o g
listed_same (answered None) f g h = refl
listed_same (answered (Some a)) f g h = ap (item a) (h a refl)
listed_same (refused n v) f g h = refl

-- listings by readings that agree from a place on are the same from there on
pub listing_agree : {A : Type 0} (read other : ℕ → Outcome (Option A)) (past : A → ℕ) (k at : ℕ)
    → ((place : ℕ) → at ≤ place → read place ≡ other place) → ((place : ℕ) (a : A) → read place ≡ answered (Some a) → place ≤ past a)
    → listing read past k at ≡ listing other past k at
unfolding listing
listing_agree read other past zero at same forward = refl
listing_agree read other past (suc k) at same forward =
    (listed_same (read at) _ _ λ a e.
    let ahead : at ≤ past a = forward at a e in
    listing_agree read other past k (past a) (λ place h. same place (omega arith)) forward)
    ∙ ap (λ o. listed o λ a. listing other past k (past a)) (same at (omega arith))

module _ {A : Type 0} (read : ℕ → Outcome (Option A)) (past : A → ℕ) (stop : ℕ) (moves : Advances read past stop) where
  -- any number of turns that is large enough gives the same
  pub listing_turns : (k j at : ℕ) → stop ≤ at + k → stop ≤ at + j → listing read past k at ≡ listing read past j at
  unfolding listing
  listing_turns zero zero at hk hj = refl
  listing_turns zero (suc j) at hk hj = rw (moves.none_at_stop at (omega arith))
  listing_turns (suc k) zero at hk hj = rw (moves.none_at_stop at (omega arith))
  listing_turns (suc k) (suc j) at hk hj = listed_same (read at) _ _ λ a e.
      let (ahead, inside) = moves.forward at a e in
      listing_turns k j (past a) (omega arith) (omega arith)

  -- what stands at `at`, and what stands past it
  pub listing_step : (at : ℕ) → listing read past (stop - at) at ≡ listed (read at) λ a. listing read past (stop - past a) (past a)
  unfolding listing
  listing_step at =
      listing_turns (stop - at) (suc (stop - at)) at (omega arith) (omega arith)
      ∙ listed_same (read at) _ _ λ a e.
      let (ahead, inside) = moves.forward at a e in
      listing_turns (stop - at) (stop - past a) (past a) (omega arith) (omega arith)

-- each turn lists at most one item
pub listing-items : {A : Type 0} (read : ℕ → Outcome (Option A)) (past : A → ℕ) (k at : ℕ) → items (listing read past k at) ≤ k
unfolding listing items
listing-items read past zero at = omega arith
listing-items {A = A} read past (suc k) at = by_cases (read at) λ a. listing-items read past k (past a)
  where
    by_cases : (o : Outcome (Option A)) → ((a : A) → items (listing read past k (past a)) ≤ k) → items (listed o λ a. listing read past k (past a)) ≤ suc k
    by_cases (answered None) more = omega arith
    by_cases (answered (Some a)) more =
        let rest = more a in
        omega arith
    by_cases (refused n v) more = omega arith

-- that many, and those that are counted
unfoldable pub plus : ℕ → Outcome ℕ → Outcome ℕ
plus k o = o >>= λ n. answered (k + n)

pub plus_none : (o : Outcome ℕ) → o ≡ plus 0 o
unfolding plus
plus_none (answered n) = ap (λ n. answered n) (omega arith)
plus_none (refused n v) = refl

pub plus-end : (k : ℕ) → plus k (answered 0) ≡ answered k
unfolding plus
plus-end k = ap (λ n. answered n) (omega arith)

pub plus-plus : (k : ℕ) (o : Outcome ℕ) → plus k (plus 1 o) ≡ plus (k + 1) o
unfolding plus
plus-plus k (answered n) = ap (λ n. answered n) (omega arith)
plus-plus k (refused n v) = refl

-- one item, and those that follow it
pub counted-item : {A : Type 0} (a : A) (rest : Listing A) → counted (item a rest) ≡ plus 1 (counted rest)
unfolding counted plus
counted-item a rest = refl

-- where all items are counted, they are the items that were listed
pub counted-items : {A : Type 0} (l : Listing A) (n : ℕ) → counted l ≡ answered n → n ≡ items l
unfolding counted items
counted-items ended n e = sym (same_answer e)
counted-items (broken m v) n e = absurd (refused-answered e)
counted-items (item a rest) n e =
    let (m, more, same) = bind_answered (counted rest) _ n e in
    let is = same_answer same in
    let count = counted-items rest m more in
    omega arith

pub items-length : {A : Type 0} (l : Listing A) → length (items_of l) ≡ items l
unfolding items_of items
items-length ended = refl
items-length (broken n v) = refl
items-length (item a rest) = ap suc (items-length rest)

-- one list after another
pub followed_assoc : {A : Type 0} (l m r : Listing A) → followed_by (followed_by l m) r ≡ followed_by l (followed_by m r)
unfolding followed_by
followed_assoc ended m r = refl
followed_assoc (broken n v) m r = refl
followed_assoc (item a rest) m r = ap (item a) (followed_assoc rest m r)

pub followed-items : {A : Type 0} (l m : Listing A) → items (followed_by l m) ≤ items l + items m
unfolding followed_by items
followed-items ended m = omega arith
followed-items (broken n v) m = omega arith
followed-items (item a rest) m =
    let more = followed-items rest m in
    omega arith

-- of two lists, one after another, that can be counted, each can, and the items are those of both
pub followed-counted : {A : Type 0} (l m : Listing A) (n : ℕ) → counted (followed_by l m) ≡ answered n
    → (j : ℕ) × (k : ℕ) × (counted l ≡ answered j) × (counted m ≡ answered k) × (n ≡ j + k) × (items_of (followed_by l m) ≡ items_of l ++ items_of m)
unfolding followed_by counted items_of
followed-counted ended m n e = (0, n, refl, e, omega arith, refl)
followed-counted (broken k v) m n e = absurd (refused-answered e)
followed-counted (item a rest) m n e =
    let (r, more, same) = bind_answered (counted (followed_by rest m)) _ n e in
    let (j, k, first, second, sum, both) = followed-counted rest m r more in
    let is = same_answer same in
    (1 + j, k, rw first, second, omega arith, ap (λ l. a ∷ l) both)

-- what is shown of a list is no longer than it
pub shown-items : {A B : Type 0} (show : A → Outcome B) (l : Listing A) → items (shown_by show l) ≤ items l
unfolding shown_by items
shown-items show ended = omega arith
shown-items show (broken n v) = omega arith
shown-items {B = B} show (item a rest) = by_shown (show a) (shown-items show rest)
  where
    by_shown : (o : Outcome B) → items (shown_by show rest) ≤ items rest → items (or_broken o λ b. item b (shown_by show rest)) ≤ suc (items rest)
    by_shown (answered b) more = omega arith
    by_shown (refused n v) more = omega arith
