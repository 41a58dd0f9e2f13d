-- Laws of decimal digits: what a number's digits are without the turns, that `{}`, `itoa` and `io::decimal` write them, and that they say the number.
use Prim.Native.Nat.{ℕ, zero, suc, ◌+◌, ◌-◌, ◌*◌, ◌/◌, ◌%◌, ◌^◌, ◌≤◌, ◌<◌}
use mathlib.Core.Path.{◌≡◌, refl, sym, ap, ◌∙◌}
use mathlib.Core.Bool.{Bool, true, false, cond}
use mathlib.Core.List.{List, [], ◌∷◌, ◌++◌}
use native.Mathlib.Nat.{pow-suc, one-le-pow, pow-le-pow_right}
use native.Mathlib.Numerals.{unary_clauses}
use native.Mathlib.Omega.{arith}
use lib.ListN.{get_or}
use lib.Dec.{ltb}
use borrow.Author.Tests.{lt-ltb, le-ltb, ltb-true, ltb-false}
use Rattle.io.specs.Digits.{hex_digit_ascii, last_digits, IsDigitCount}
use Rattle.std.specs.Fmt as Fmt
use Rattle.std.proofs.lemmas.Fmt.{decimal_by_steps}
use Rattle.line_text.specs.Text.{digit, digits_in, decimal}
use Rattle.line_text.specs.Sanity.{read_from, AllDigits, none_left, digit_then, Decimal, DecimalRight, DecimalSteps}

-- more turns than n give the same digits, however many they are
same_digits : (t u n : ℕ) → n < t → n < u → digits_in t n ≡ digits_in u n
unfolding digits_in
same_digits zero u n enough also = absurd (omega arith)
same_digits (suc t) zero n enough also = absurd (omega arith)
same_digits (suc t) (suc u) n enough also = by_test (ltb n 10) refl (same_digits t u (n / 10))
  where
    by_test : (b : Bool) → ltb n 10 ≡ b → (n / 10 < t → n / 10 < u → digits_in t (n / 10) ≡ digits_in u (n / 10))
        → cond b (digit n ∷ []) (digits_in t (n / 10) ++ (digit (n % 10) ∷ [])) ≡ cond b (digit n ∷ []) (digits_in u (n / 10) ++ (digit (n % 10) ∷ []))
    by_test true e rest = refl
    by_test false e rest = let big = ltb-false n 10 e in rw (rest (omega arith) (omega arith))

-- a number's digits: below 10 its one digit, else the digits of n / 10 and its last digit
pub decimal_step : DecimalSteps
unfolding decimal digits_in
decimal_step n = by_test (ltb n 10) refl
  where
    by_test : (b : Bool) → ltb n 10 ≡ b
        → cond b (digit n ∷ []) (digits_in n (n / 10) ++ (digit (n % 10) ∷ [])) ≡ cond b (digit n ∷ []) (digits_in (suc (n / 10)) (n / 10) ++ (digit (n % 10) ∷ []))
    by_test true e = refl
    by_test false e = let big = ltb-false n 10 e in rw (same_digits n (suc (n / 10)) (n / 10) (omega arith) (omega arith))

-- the same, for a number of one digit and for a larger one
pub decimal-one : (n : ℕ) → n < 10 → decimal n ≡ digit n ∷ []
decimal-one n small = decimal_step n ∙ rw (lt-ltb n 10 small)

pub decimal-more : (n : ℕ) → 10 ≤ n → decimal n ≡ decimal (n / 10) ++ (digit (n % 10) ∷ [])
decimal-more n large = decimal_step n ∙ rw (le-ltb n 10 large)

-- the digits that `{}` and `itoa` write are these
pub printed_decimal : (n : ℕ) → n < 2 ^ 64 → Fmt.decimal n ≡ decimal n
printed_decimal = decimal_by_steps (λ n ds. ds ≡ decimal n) (λ n small. sym (decimal-one n small)) (λ n ds large before. ap (λ ds. ds ++ ((48 + n % 10) ∷ [])) before ∙ sym (decimal-more n large))

-- the digit that `io::decimal` writes is ours
glyph_digit : (d : ℕ) → d < 10 → hex_digit_ascii d ≡ digit d
glyph_digit d small = rw (lt-ltb d 10 small)

-- so are its digits, where there are as few as it says
pub digits_decimal : (k n : ℕ) → IsDigitCount 10 1 n k → last_digits 10 k n ≡ decimal n
digits_decimal zero n (some-digits, below, no-fewer) = absurd (omega arith)
digits_decimal (suc zero) n (some-digits, below, no-fewer) =
    let small : n < 10 = omega arith in
    let same : n % 10 ≡ n = omega arith in
    rw (same, decimal-one n small) (ap (λ d. d ∷ []) (glyph_digit n small))
digits_decimal (suc (suc k)) n (some-digits, below, no-fewer) =
    let least = simp unary_clauses at (no-fewer (omega arith)) in
    let one_more_lem : 10 ^ suc (suc k) ≡ 10 ^ suc k * 10 = pow-suc 10 (suc k) in
    let power : 10 ^ suc k ≡ 10 ^ k * 10 = pow-suc 10 k in
    let some : 1 ≤ 10 ^ k = one-le-pow k 10 (omega arith) in
    let rest = digits_decimal (suc k) (n / 10) (omega arith, omega arith, λ h. simp unary_clauses (omega arith)) in
    rw (glyph_digit (n % 10) (omega arith), decimal-more n (omega arith)) (ap (λ ds. ds ++ (digit (n % 10) ∷ [])) rest)

-- a number of 64 bits has at most 20 digits
pub few_digits : (k n : ℕ) → IsDigitCount 10 1 n k → n < 2 ^ 64 → k ≤ 20
few_digits k n (some-digits, below, no-fewer) fits = by_test (ltb 20 k) refl
  where
    by_test : (b : Bool) → ltb 20 k ≡ b → k ≤ 20
    by_test true e =
        let many = ltb-true 20 k e in
        let least = no-fewer (omega arith) in
        let power : 10 ^ 20 ≤ 10 ^ (k - 1) = pow-le-pow_right {n = 10} (omega arith) {i = 20} {j = k - 1} (omega arith) in
        absurd (omega arith)
    by_test false e = ltb-false 20 k e

-- one digit behind others
read_behind : (v : ℕ) (ds : List ℕ) (d : ℕ) → read_from v (ds ++ (d ∷ [])) ≡ 10 * read_from v ds + (d - 48)
unfolding read_from
read_behind v [] d = refl
read_behind v (x ∷ ds) d = read_behind (10 * v + (x - 48)) ds d

all-behind : {ds : List ℕ} {d : ℕ} → AllDigits ds → (48 ≤ d) × (d ≤ 57) → AllDigits (ds ++ (d ∷ []))
all-behind none_left one = digit_then one none_left
all-behind (digit_then first rest) one = digit_then first (all-behind rest one)

first_stays : (ds : List ℕ) (d : ℕ) → 48 < get_or ds 0 0 → 48 < get_or (ds ++ (d ∷ [])) 0 0
first_stays [] d none = absurd (omega arith)
first_stays (x ∷ ds) d some_IsFirst = some_IsFirst

right-below : (most n : ℕ) → n < most → Decimal n (decimal n)
unfolding read_from
right-below zero n small = absurd (omega arith)
right-below (suc most) n small = by_test (ltb n 10) refl (right-below most (n / 10))
  where
    by_test : (b : Bool) → ltb n 10 ≡ b → (n / 10 < most → Decimal (n / 10) (decimal (n / 10))) → Decimal n (decimal n)
    by_test true e rest =
        let one = ltb-true n 10 e in
        let in-range : (48 ≤ digit n) × (digit n ≤ 57) = (omega arith, omega arith) in
        rw (decimal-one n one) (record { digits = digit_then in-range none_left; says = omega arith; shortest = λ h. omega arith; zero_one = ap (λ k. digit k ∷ []) })
    by_test false e rest =
        let more = ltb-false n 10 e in
        let before = rest (omega arith) in
        let in-range : (48 ≤ digit (n % 10)) × (digit (n % 10) ≤ 57) = (omega arith, omega arith) in
        rw (decimal-more n more) (record {
          digits = all-behind before.digits in-range;
          says = rw (read_behind 0 (decimal (n / 10)) (digit (n % 10)), before.says) (omega arith);
          shortest = λ h. first_stays (decimal (n / 10)) (digit (n % 10)) (before.shortest (omega arith));
          zero_one = λ h. absurd (omega arith);
        })

pub decimal-right : DecimalRight
decimal-right n = right-below (suc n) n (omega arith)
