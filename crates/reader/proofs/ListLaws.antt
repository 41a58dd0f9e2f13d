-- Laws of lists of numbers in order, and of what is taken of a list by a test.
use Prim.Native.Nat.{ℕ, zero, suc, ◌+◌, ◌-◌, ◌≤◌, ◌<◌}
use mathlib.Core.Path.{◌≡◌, refl, sym, ap}
use mathlib.Core.Bool.{Bool, true, false, cond}
use mathlib.Core.List.{List, [], ◌∷◌, ◌++◌}
use native.Mathlib.Omega.{arith}
use lib.ListN.{length, take}
use lib.Dec.{ltb, eqb}
use borrow.Author.Tests.{ltb-true, ltb-false, eqb-true, eqb-false}
use Rattle.reader.specs.Lists.{numbers_from, filterb, take_while, memberb}

pub numbers_length : (k n : ℕ) → length (numbers_from k n) ≡ n
unfolding numbers_from
numbers_length k zero = refl
numbers_length k (suc n) = ap suc (numbers_length (k + 1) n)

-- no more elements are taken than there are
pub while_length : {A : Type 0} (test : A → Bool) (l : List A) → length (take_while test l) ≤ length l
unfolding take_while
while_length test [] = omega arith
while_length test (a ∷ rest) = chosen (test a) (while_length test rest)
  where
    chosen : (t : Bool) → length (take_while test rest) ≤ length rest → length (cond t (a ∷ take_while test rest) []) ≤ suc (length rest)
    chosen true h = omega arith
    chosen false h = omega arith

pub filter-length : {A : Type 0} (test : A → Bool) (l : List A) → length (filterb test l) ≤ length l
unfolding filterb
filter-length test [] = omega arith
filter-length test (a ∷ rest) = chosen (test a) (filter-length test rest)
  where
    chosen : (t : Bool) → length (filterb test rest) ≤ length rest → length (cond t (a ∷ filterb test rest) (filterb test rest)) ≤ suc (length rest)
    chosen true h = omega arith
    chosen false h = omega arith

-- a beginning of a list that was taken by a test is a beginning by its length
pub while_take : {A : Type 0} (test : A → Bool) (l : List A) → take (length (take_while test l)) l ≡ take_while test l
unfolding take_while
while_take test [] = refl
while_take test (a ∷ rest) = chosen (test a) (while_take test rest)
  where
    chosen : (t : Bool) → take (length (take_while test rest)) rest ≡ take_while test rest → take (length (cond t (a ∷ take_while test rest) [])) (a ∷ rest) ≡ cond t (a ∷ take_while test rest) []
    chosen true h = ap (λ l. a ∷ l) h
    chosen false h = refl

-- a shorter beginning of a beginning
pub take_shorter : {A : Type 0} (n : ℕ) (l : List A) → take n (take (suc n) l) ≡ take n l
take_shorter zero l = refl
take_shorter (suc n) [] = refl
take_shorter (suc n) (a ∷ rest) = ap (λ l. a ∷ l) (take_shorter n rest)

pub false_true : false ≡ true → ⊥
false_true e = let z : ◌≡◌ {A = ℕ} 0 1 = cc in omega arith

-- what never holds is false
pub never_true : (t : Bool) → (t ≡ true → ⊥) → t ≡ false
never_true true never = absurd (never refl)
never_true false never = refl

pub nil_cons : {A : Type 0} {a : A} {l : List A} → [] ≡ a ∷ l → ⊥
nil_cons e = let z : ◌≡◌ {A = ℕ} 0 1 = cc in omega arith

pub head-same : {A : Type 0} {a b : A} {l m : List A} → a ∷ l ≡ b ∷ m → a ≡ b
head-same e = cc

pub tail_same : {A : Type 0} {a b : A} {l m : List A} → a ∷ l ≡ b ∷ m → l ≡ m
tail_same e = cc

-- what a test takes of the numbers from a on, below n: it is decided by a, or by those after it
pub filter_step : (test : ℕ → Bool) (n a : ℕ) → filterb test (numbers_from a (n - a))
    ≡ cond (ltb a n) (cond (test a) (a ∷ filterb test (numbers_from (a + 1) (n - (a + 1)))) (filterb test (numbers_from (a + 1) (n - (a + 1))))) []
unfolding numbers_from filterb
filter_step test n a = tested (ltb a n) refl
  where
    after : List ℕ
    after = filterb test (numbers_from (a + 1) (n - (a + 1)))

    tested : (t : Bool) → ltb a n ≡ t → filterb test (numbers_from a (n - a)) ≡ cond t (cond (test a) (a ∷ after) after) []
    tested true e =
        let below = ltb-true a n e in
        let one_more_lem : n - a ≡ suc (n - (a + 1)) = omega arith in
        rw one_more_lem
    tested false e =
        let above = ltb-false a n e in
        let none_left : n - a ≡ 0 = omega arith in
        rw none_left

-- a number that is in what a test takes of a list is in the list
pub member_filter : (test : ℕ → Bool) (n : ℕ) (l : List ℕ) → memberb n (filterb test l) ≡ true → memberb n l ≡ true
unfolding filterb memberb
member_filter test n [] h = h
member_filter test n (m ∷ ms) h = chosen (test m) (eqb n m) refl (member_filter test n ms) h
  where
    chosen : (t u : Bool) → eqb n m ≡ u → (memberb n (filterb test ms) ≡ true → memberb n ms ≡ true) → memberb n (cond t (m ∷ filterb test ms) (filterb test ms)) ≡ true → cond u true (memberb n ms) ≡ true
    chosen t true e more h = refl
    chosen true false e more h = more (rw e at h)
    chosen false false e more h = more h

-- and where the test holds for it, it is in what is taken
pub filter_member : (test : ℕ → Bool) (n : ℕ) (l : List ℕ) → test n ≡ true → memberb n l ≡ true → memberb n (filterb test l) ≡ true
unfolding filterb memberb
filter_member test n [] holds h = h
filter_member test n (m ∷ ms) holds h = chosen (eqb n m) refl (filter_member test n ms holds) h
  where
    taken : (t : Bool) → test m ≡ t → memberb n (filterb test ms) ≡ true → memberb n (cond t (m ∷ filterb test ms) (filterb test ms)) ≡ true
    taken true e more = passed (eqb n m)
      where
        passed : (u : Bool) → cond u true (memberb n (filterb test ms)) ≡ true
        passed true = refl
        passed false = more
    taken false e more = more

    chosen : (u : Bool) → eqb n m ≡ u → (memberb n ms ≡ true → memberb n (filterb test ms) ≡ true) → cond u true (memberb n ms) ≡ true → memberb n (cond (test m) (m ∷ filterb test ms) (filterb test ms)) ≡ true
    chosen true e more h =
        let same = eqb-true n m e in
        let here : test m ≡ true = rw (sym same) holds in
        rw (here, e)
    chosen false e more h = taken (test m) refl (more h)

-- and the test holds for whatever is taken
pub member_holds : (test : ℕ → Bool) (n : ℕ) (l : List ℕ) → memberb n (filterb test l) ≡ true → test n ≡ true
unfolding filterb memberb
member_holds test n [] h = absurd (false_true h)
member_holds test n (m ∷ ms) h = chosen (test m) (eqb n m) refl refl (member_holds test n ms) h
  where
    chosen : (t u : Bool) → test m ≡ t → eqb n m ≡ u → (memberb n (filterb test ms) ≡ true → test n ≡ true) → memberb n (cond t (m ∷ filterb test ms) (filterb test ms)) ≡ true → test n ≡ true
    chosen true true holds same more h = rw (eqb-true n m same) holds
    chosen true false holds other more h = more (rw other at h)
    chosen false u fails e more h = more h

-- a number at or past a that is not a is past it
pub past-other : (m a : ℕ) → a ≤ m → (m ≡ a → ⊥) → a + 1 ≤ m
past-other m a above other = by_order (ltb a m) refl
  where
    by_order : (t : Bool) → ltb a m ≡ t → a + 1 ≤ m
    by_order true h = let less = ltb-true a m h in omega arith
    by_order false h = let least = ltb-false a m h in absurd (other (omega arith))

-- the numbers from a on, below n
pub member_numbers : (m a k : ℕ) → a ≤ m → m < a + k → memberb m (numbers_from a k) ≡ true
unfolding numbers_from memberb
member_numbers m a zero above below = absurd (omega arith)
member_numbers m a (suc k) above below = chosen (eqb m a) refl (λ h. member_numbers m (a + 1) k h (omega arith))
  where
    chosen : (t : Bool) → eqb m a ≡ t → (a + 1 ≤ m → memberb m (numbers_from (a + 1) k) ≡ true) → cond t true (memberb m (numbers_from (a + 1) k)) ≡ true
    chosen true e more = refl
    chosen false e more = more (past-other m a above (eqb-false m a e))

-- so a number below k for which a test holds is in what the test takes of the first k numbers
pub filter-below : (test : ℕ → Bool) (n k : ℕ) → test n ≡ true → n < k → memberb n (filterb test (numbers_from 0 k)) ≡ true
filter-below test n k holds below = filter_member test n (numbers_from 0 k) holds (member_numbers n 0 k (omega arith) (omega arith))

-- and no other number is one of those from a on
pub numbers_member : (m a k : ℕ) → memberb m (numbers_from a k) ≡ true → (a ≤ m) × (m < a + k)
unfolding numbers_from memberb
numbers_member m a zero h = absurd (false_true h)
numbers_member m a (suc k) h = chosen (eqb m a) refl (numbers_member m (a + 1) k) h
  where
    chosen : (t : Bool) → eqb m a ≡ t → (memberb m (numbers_from (a + 1) k) ≡ true → (a + 1 ≤ m) × (m < (a + 1) + k)) → cond t true (memberb m (numbers_from (a + 1) k)) ≡ true → (a ≤ m) × (m < a + suc k)
    chosen true e more h = let here = eqb-true m a e in (omega arith, omega arith)
    chosen false e more h = let (above, below) = more h in (omega arith, omega arith)

-- what a test takes of one number more: what it takes of those before, and then the last, if the test holds for it
pub filter-last : (test : ℕ → Bool) (a k : ℕ) → filterb test (numbers_from a (suc k)) ≡ filterb test (numbers_from a k) ++ cond (test (a + k)) ((a + k) ∷ []) []
unfolding numbers_from filterb
filter-last test a zero = let same : a + 0 ≡ a = omega arith in rw same
filter-last test a (suc k) =
    let same : a + suc k ≡ (a + 1) + k = omega arith in
    rw same (tested (test a) (filter-last test (a + 1) k))
  where
    before : List ℕ
    before = filterb test (numbers_from (a + 1) k)

    all : List ℕ
    all = filterb test (numbers_from (a + 1) (suc k))

    last : List ℕ
    last = cond (test ((a + 1) + k)) (((a + 1) + k) ∷ []) []

    tested : (t : Bool) → all ≡ before ++ last → cond t (a ∷ all) all ≡ cond t (a ∷ before) before ++ last
    tested true e = ap (λ l. a ∷ l) e
    tested false e = e

-- one of the k numbers from a on, for which a test holds, and for none before it
abbrev pub IsFirst : (ℕ → Bool) → ℕ → ℕ → ℕ → Type 0
IsFirst test a k n = (a ≤ n) × (n < a + k) × (test n ≡ true) × ((m : ℕ) → a ≤ m → m < n → test m ≡ false)

-- so is the first that the test takes of them
pub filter-first : (test : ℕ → Bool) (a k n : ℕ) (more : List ℕ) → filterb test (numbers_from a k) ≡ n ∷ more → IsFirst test a k n
unfolding numbers_from filterb
filter-first test a zero n more e = absurd (nil_cons e)
filter-first test a (suc k) n more e = tested (test a) refl (filter-first test (a + 1) k n more) e
  where
    after : List ℕ
    after = filterb test (numbers_from (a + 1) k)

    tested : (t : Bool) → test a ≡ t → (after ≡ n ∷ more → IsFirst test (a + 1) k n) → cond t (a ∷ after) after ≡ n ∷ more → IsFirst test a (suc k) n
    tested true holds later f = let here : a ≡ n = head-same f in (omega arith, omega arith, rw (sym here) holds, λ m above below. absurd (omega arith))
    tested false fails later f =
        let (above, below, holds, none) = later f in
        (omega arith, omega arith, holds, λ m least most. before m least most (eqb m a) refl none)
      where
        before : (m : ℕ) → a ≤ m → m < n → (t : Bool) → eqb m a ≡ t → ((j : ℕ) → a + 1 ≤ j → j < n → test j ≡ false) → test m ≡ false
        before m least most true same none = rw (eqb-true m a same) fails
        before m least most false other none = none m (past-other m a least (eqb-false m a other)) most

-- where the test holds for none of the numbers from a on, below a + k, it takes none
pub filter_none : (test : ℕ → Bool) (a k : ℕ) → ((m : ℕ) → a ≤ m → m < a + k → test m ≡ false) → filterb test (numbers_from a k) ≡ []
unfolding numbers_from filterb
filter_none test a zero never = refl
filter_none test a (suc k) never = rw (never a (omega arith) (omega arith)) (filter_none test (a + 1) k (λ m h l. never m (omega arith) (omega arith)))

-- where it holds for none below b, what it takes of the numbers from a on, below n, is what it takes of those from b on
pub filter-later : (test : ℕ → Bool) (n a k : ℕ) → ((m : ℕ) → a ≤ m → m < a + k → m < n → test m ≡ false)
    → filterb test (numbers_from a (n - a)) ≡ filterb test (numbers_from (a + k) (n - (a + k)))
unfolding numbers_from filterb
filter-later test n a zero never = let same : a + 0 ≡ a = omega arith in rw same
filter-later test n a (suc k) never =
    let next : a + suc k ≡ (a + 1) + k = omega arith in
    rw (next, filter_step test n a) (tested (ltb a n) refl (filter-later test n (a + 1) k (λ m h l f. never m (omega arith) (omega arith) f)))
  where
    after : List ℕ
    after = filterb test (numbers_from (a + 1) (n - (a + 1)))

    later : List ℕ
    later = filterb test (numbers_from ((a + 1) + k) (n - ((a + 1) + k)))

    tested : (t : Bool) → ltb a n ≡ t → after ≡ later → cond t (cond (test a) (a ∷ after) after) [] ≡ later
    tested true e rest = rw (never a (omega arith) (omega arith) (ltb-true a n e)) rest
    tested false e rest =
        let above = ltb-false a n e in
        let none_left : n - ((a + 1) + k) ≡ 0 = omega arith in
        rw none_left

-- a list of no elements has no number
pub no_members : (n : ℕ) (l : List ℕ) → length l ≡ 0 → memberb n l ≡ true → ⊥
unfolding memberb
no_members n [] none h = false_true h
no_members n (m ∷ ms) none h = omega arith
