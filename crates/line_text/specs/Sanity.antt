-- What a reader of the definitions may want to be sure of: that decimal digits are right, and examples of
-- lines (SPECIFICATION 13.1). The laws of these types prove it, in proofs/DecimalLaws.antt and
-- proofs/TextLaws.antt.
use Rattle.std.specs.Prelude.{ℕ, ◌+◌, ◌-◌, ◌*◌, ◌/◌, ◌%◌, ◌≤◌, ◌<◌, ◌≡◌, cond, List, [], ◌∷◌, ◌++◌, map, get_or, ltb, Option, Some, None}
use Prim.Native.String.{String}
use Rattle.listing.specs.declared.lines.Line.{Line}
use Rattle.line_text.specs.Text.{bytes, digit, decimal, line_text, refused_text}

-- the number that decimal digits say, behind digits that say v
unfoldable pub read_from : ℕ → List ℕ → ℕ
read_from v [] = v
read_from v (d ∷ ds) = read_from (10 * v + (d - 48)) ds

-- each is the character of a digit, 0 to 9
pub data AllDigits : List ℕ → Type 0 where
  none_left : AllDigits []
  digit_then : {d : ℕ} {ds : List ℕ} → (48 ≤ d) × (d ≤ 57) → AllDigits ds → AllDigits (d ∷ ds)

-- a number's text: digits alone, they say the number, the first of them is not 0, and 0 is one digit
pub record Decimal (n : ℕ) (text : List ℕ) : Type 0 where
  pub digits : AllDigits text
  pub says : read_from 0 text ≡ n
  pub shortest : 0 < n → 48 < get_or text 0 0
  pub zero_one : n ≡ 0 → text ≡ 48 ∷ []

abbrev pub DecimalRight : Type 0
DecimalRight = (n : ℕ) → Decimal n (decimal n)

-- the digits of a number without the turns of their definition
abbrev pub DecimalSteps : Type 0
DecimalSteps = (n : ℕ) → decimal n ≡ cond (ltb n 10) (digit n ∷ []) (decimal (n / 10) ++ (digit (n % 10) ∷ []))

-- lines of these numbers
abbrev index : ℕ → ℕ → ℕ → Option ℕ → Line
index place names buckets missed =
    Line.Index (record { place = record { 0 = place }; name_count = names; bucket_count = buckets; missed = missed })

abbrev name : ℕ → Option ℕ → ℕ → ℕ → Line
name number hash string entries =
    Line.Name (record { name = record { 0 = number }; hash = hash; string = record { 0 = string }; entries = entries })

-- Case A's lines; then lines with several digits in every field, with the largest numbers that the code's
-- types hold (of the place that of the longest section), and with "-" for missed and for a hash; no indexes,
-- and twenty; and two refusals.
abbrev pub lines_written : List (List ℕ)
lines_written =
    line_text (index 0 3 2 (Some 0))
    ∷ line_text (name 0 (Some 4) 1 1)
    ∷ line_text (name 1 (Some 7) 5 1)
    ∷ line_text (name 2 (Some 9) 6 1)
    ∷ line_text (Line.Indexes 1)
    ∷ line_text (index 10 12 34 (Some 56))
    ∷ line_text (index 2147483647 4294967295 4294967295 (Some 4294967295))
    ∷ line_text (index 53 1 0 None)
    ∷ line_text (name 11 (Some 1010) 100 23)
    ∷ line_text (name 4294967295 (Some 4294967295) 18446744073709551615 18446744073709551615)
    ∷ line_text (name 0 None 7 1)
    ∷ line_text (Line.Indexes 0)
    ∷ line_text (Line.Indexes 20)
    ∷ refused_text 1
    ∷ refused_text 13
    ∷ []

abbrev pub lines_expected : List String
lines_expected =
    "index 0 names 3 buckets 2 missed 0\n"
    ∷ "name 0 hash 4 string 1 entries 1\n"
    ∷ "name 1 hash 7 string 5 entries 1\n"
    ∷ "name 2 hash 9 string 6 entries 1\n"
    ∷ "indexes 1\n"
    ∷ "index 10 names 12 buckets 34 missed 56\n"
    ∷ "index 2147483647 names 4294967295 buckets 4294967295 missed 4294967295\n"
    ∷ "index 53 names 1 buckets 0 missed -\n"
    ∷ "name 11 hash 1010 string 100 entries 23\n"
    ∷ "name 4294967295 hash 4294967295 string 18446744073709551615 entries 18446744073709551615\n"
    ∷ "name 0 hash - string 7 entries 1\n"
    ∷ "indexes 0\n"
    ∷ "indexes 20\n"
    ∷ "refused 1\n"
    ∷ "refused 13\n"
    ∷ []

abbrev pub LinesAsWritten : Type 0
LinesAsWritten = lines_written ≡ map bytes lines_expected
