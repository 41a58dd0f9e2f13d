-- Laws of the strings of .debug_str.
use Prim.Native.Nat.{ℕ, ◌+◌, ◌≤◌, ◌<◌}
use mathlib.Core.Path.{◌≡◌, refl, sym, ap, ◌∙◌}
use mathlib.Core.List.{List, [], ◌∷◌}
use mathlib.Core.Bool.{Bool, true, false, cond}
use native.Mathlib.Omega.{arith}
use lib.ListN.{length, take, drop, length-drop}
use lib.Dec.{ltb, eqb}
use borrow.Author.Tests.{ltb-true}
use Rattle.std.specs.List.{position, position_or_len}
use Rattle.std.proofs.lemmas.List.Recursion.{is_position_or_len}
use Rattle.std.specs.Prelude.{Some, None}
use Rattle.std.proofs.lemmas.Bool.Decides.{nat_tests}
use Rattle.reader.specs.Outcome.{answered, demand, refuse_if}
use Rattle.reader.specs.Errors.{longest}
use Rattle.reader.specs.Parts.{skipped}
use Rattle.strings.specs.declared.Str.{Str}
use Rattle.strings.specs.Strings.{before_zero, zero_from, get_str, text_bytes, str_bytes}
use Rattle.strings.specs.Sanity.{StringsEndAtZero}
use Rattle.reader.proofs.OutcomeLaws.{bind_answered, then_answered, demanded, same_answer}
use Rattle.reader.proofs.PartLaws.{skip_answered}

-- how many bytes stand before the first zero byte: its index, or their number where there is none
zero-index : (bs : List ℕ) → length (before_zero bs) ≡ position_or_len (λ b. eqb b 0) bs
unfolding before_zero
zero-index = is_position_or_len (λ l. length (before_zero l)) (λ b. eqb b 0) refl (λ x xs. go (eqb x 0) x xs)
  where
    go : (t : Bool) (x : ℕ) (xs : List ℕ) → length (cond t [] (x ∷ before_zero xs)) ≡ cond t 0 (1 + length (before_zero xs))
    go true x xs = refl
    go false x xs = omega arith

-- a zero byte that a search from `start` on finds tells the string's length, and lies inside the section
pub zero_found : (s : List ℕ) (start len : ℕ) → position (λ b. eqb b 0) (drop start s) ≡ Some len
    → (length (before_zero (drop start s)) ≡ len) × (ltb (zero_from s start) (length s) ≡ true)
unfolding zero_from
zero_found s start len e = grind (arith, nat_tests, zero-index (drop start s), length-drop start s)

-- where it finds none, none lies inside the section
pub zero_missing : (s : List ℕ) (start : ℕ) → start ≤ length s → position (λ b. eqb b 0) (drop start s) ≡ None
    → ltb (zero_from s start) (length s) ≡ false
unfolding zero_from
zero_missing s start h e = grind (arith, nat_tests, zero-index (drop start s), length-drop start s)

-- what an answered string says: it starts at the offset and lies inside the section, with its zero byte right after it
pub str_answered : (s : List ℕ) (offset : ℕ) (t : Str) → get_str s offset ≡ answered t
    → (t.start ≡ 0 + offset) × (t.len ≡ length (before_zero (drop t.start s))) × (t.start + t.len < length s)
unfolding get_str zero_from
str_answered s offset t e =
    let (u, p, q) = then_answered (refuse_if (ltb longest (length s)) 13 0) _ t e in
    let (start, o, m) = bind_answered (skipped offset s 0 (length s)) _ t q in
    let (v, z, w) = then_answered (demand (ltb (start + length (before_zero (drop start s))) (length s)) 1 start) _ t m in
    let inside : start + length (before_zero (drop start s)) < length s = ltb-true _ _ (demanded _ 1 start v z) in
    let begins : t.start ≡ start = ap (λ x. x.start) (sym (same_answer w)) in
    let long : t.len ≡ length (before_zero (drop start s)) = ap (λ x. x.len) (sym (same_answer w)) in
    (begins ∙ (skip_answered offset s 0 (length s) start o).1, rw begins long, omega arith)

-- so what a caller cuts out of the section is there
pub str_inside : (s : List ℕ) (offset : ℕ) (t : Str) → get_str s offset ≡ answered t → t.start + t.len < length s
str_inside s offset t e = (str_answered s offset t e).2

before-take : (bs : List ℕ) → take (length (before_zero bs)) bs ≡ before_zero bs
unfolding before_zero
before-take [] = refl
before-take (b ∷ bs) = go (eqb b 0) (before-take bs)
  where
    go : (t : Bool) → take (length (before_zero bs)) bs ≡ before_zero bs → take (length (cond t [] (b ∷ before_zero bs))) (b ∷ bs) ≡ cond t [] (b ∷ before_zero bs)
    go true e = refl
    go false e = ap (λ l. b ∷ l) e

-- the bytes of an answered string are those before the first zero byte from its offset on
pub str_bytes_lem : StringsEndAtZero
unfolding str_bytes text_bytes
str_bytes_lem s offset t e =
    let (start, long, inside) = str_answered s offset t e in
    let zero-start : 0 + offset ≡ offset = omega arith in
    rw (e, long, start, zero-start) (before-take (drop offset s))
