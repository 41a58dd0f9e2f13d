-- Lists that can be counted, and what was shown of their items.
use Prim.Native.Nat.{ℕ, zero, suc}
use mathlib.Core.Path.{◌≡◌, refl, sym, ap, ap₂}
use mathlib.Core.Bool.{Bool, true, false, cond}
use mathlib.Core.List.{List, [], ◌∷◌, map}
use lib.ListN.{take}
use Rattle.reader.specs.Outcome.{Outcome, answered, refused}
use Rattle.reader.specs.Listing.{Listing, ended, broken, item, or_broken, shown_by, items_of, counted}
use Rattle.reader.specs.Lists.{filterb}
use Rattle.reader.proofs.OutcomeLaws.{refused-answered, bind_answered}

-- where all that is shown of a list can be counted, each item was shown, and these are the answers
pub shown-all : {A B : Type 0} (show : A → Outcome B) (l : Listing A) (n : ℕ) → counted (shown_by show l) ≡ answered n → map answered (items_of (shown_by show l)) ≡ map show (items_of l)
unfolding counted shown_by items_of
shown-all show ended n e = refl
shown-all show (broken m v) n e = refl
shown-all {B = B} show (item a rest) n e = by_shown (show a) refl (λ k f. shown-all show rest k f) e
  where
    by_shown : (o : Outcome B) → show a ≡ o → ((k : ℕ) → counted (shown_by show rest) ≡ answered k → map answered (items_of (shown_by show rest)) ≡ map show (items_of rest))
        → counted (or_broken o λ b. item b (shown_by show rest)) ≡ answered n → map answered (items_of (or_broken o λ b. item b (shown_by show rest))) ≡ show a ∷ map show (items_of rest)
    by_shown (answered b) same more e =
        let (k, count, is) = bind_answered (counted (shown_by show rest)) _ n e in
        ap₂ (λ o l. o ∷ l) (sym same) (more k count)
    by_shown (refused m v) same more e = absurd (refused-answered e)

pub map-take : {A B : Type 0} (f : A → B) (n : ℕ) (l : List A) → map f (take n l) ≡ take n (map f l)
map-take f zero l = refl
map-take f (suc n) [] = refl
map-take f (suc n) (a ∷ l) = ap (λ l. f a ∷ l) (map-take f n l)

-- two tests, one after the other
pub filter-both : (first second : ℕ → Bool) (l : List ℕ) → filterb (λ n. cond (first n) (second n) false) l ≡ filterb second (filterb first l)
unfolding filterb
filter-both first second [] = refl
filter-both first second (n ∷ l) = by_tests (first n) (second n) refl (filter-both first second l)
  where
    by_tests : (t u : Bool) → second n ≡ u → filterb (λ n. cond (first n) (second n) false) l ≡ filterb second (filterb first l)
        → cond (cond t u false) (n ∷ filterb (λ n. cond (first n) (second n) false) l) (filterb (λ n. cond (first n) (second n) false) l) ≡ filterb second (cond t (n ∷ filterb first l) (filterb first l))
    by_tests true true e more = rw e (ap (λ l. n ∷ l) more)
    by_tests true false e more = rw e more
    by_tests false u e more = more

-- a test that always holds takes all
pub filter-all : (l : List ℕ) → filterb (λ n. true) l ≡ l
unfolding filterb
filter-all [] = refl
filter-all (n ∷ l) = ap (λ l. n ∷ l) (filter-all l)
