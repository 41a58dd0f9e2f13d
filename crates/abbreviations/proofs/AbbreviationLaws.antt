-- Laws of the abbreviation table: pairs and declarations one at a time, with no count of turns, and what each answer tells.
use Prim.Native.Nat.{ℕ, zero, suc, ◌+◌, ◌-◌, ◌≤◌, ◌<◌}
use mathlib.Core.Path.{◌≡◌, refl, sym, ap, ◌∙◌}
use mathlib.Core.Bool.{Bool, true, false, cond, true≢false}
use mathlib.Core.Logic.{◌⊎◌, inl, inr}
use mathlib.Core.List.{List, []}
use Rattle.std.specs.Prelude.{Option, Some, None, option_map}
use Rattle.reader.proofs.OutcomeLaws.{none-ne-some, some-injective}
use native.Mathlib.Omega.{arith}
use lib.Dec.{ltb, eqb}
use lib.Seq.{slice}
use borrow.Author.Tests.{eq-eqb, ne_eqb, eqb-true, le-ltb, ltb-true, ltb-false}
use Rattle.reader.specs.Outcome.{Outcome, answered, refused, ◌>>=◌, ◌>>◌, demand, refuse_if}
use Rattle.reader.specs.Parts.{part_end, left_at, Forward}
use Rattle.reader.specs.Numbers.{read_byte}
use Rattle.reader.specs.declared.reader.Read.{Read}
use Rattle.leb128.specs.Leb128.{leb128, unsigned_limit, u16_limit}
use Rattle.reader.specs.Listing.{listed, listing, Advances}
use Rattle.reader.proofs.OutcomeLaws.{refused-answered, same_answer, bind_answered, then_answered, bind_both, cond_is}
use Rattle.reader.proofs.PartLaws.{slice-from, slice-left}
use Rattle.reader.proofs.NumberLaws.{byte-answered}
use Rattle.leb128.proofs.Leb128Laws.{leb128-forward, leb128_none, leb128_part}
use Rattle.leb128.proofs.Leb128Limits.{unsigned-one, u16-one, u16_missing, u16-longer}
use Rattle.reader.proofs.ListingLaws.{listing_step, listing_agree}
use Rattle.abbreviations.specs.declared.NameAbbreviation.{NameAbbreviation}
use Rattle.abbreviations.specs.declared.ReadAttribute.{ReadAttribute}
use Rattle.abbreviations.specs.declared.Head.{Head}
use Rattle.abbreviations.specs.Sanity.{TablesUnfold, DeclarationsForward, DeclarationsRead, FoundInTable, TablesInPart}
use Rattle.abbreviations.specs.Abbreviations.{pair, Attributes, attribute_then, attributes_in, attributes, head, Declaration, with_attributes, declaration, table, ending, parsed, find, abbreviation_of, found}
use Rattle.abbreviations.specs.Inner.{is_short, of_two_bytes, short_pair, attributes_end, declared}

-- the test of a pair
abbrev tested : ℕ → ℕ → Outcome (Unit {0})
tested name form = cond (eqb name 0) (demand (eqb form 0) 5 0) (refuse_if (eqb form 0) 6 0)

-- a pair moves forward, and stays inside its part
pub pair_forward : (s : List ℕ) (at end : ℕ) (p : ReadAttribute) → pair s at end ≡ answered p → Forward s at end p.next
unfolding pair
pair_forward s at end p e =
    let (name, read_name, e₁) = bind_answered (leb128 u16_limit s at end) _ p e in
    let (form, read-form, e₂) = bind_answered (leb128 u16_limit s name.next end) _ p e₁ in
    let (u, passes, e₃) = then_answered (tested name.value form.value) _ p e₂ in
    let past : p.next ≡ form.next = ap (λ q. q.next) (sym (same_answer e₃)) in
    let (name-ahead, name-inside) = leb128-forward u16_limit s at end name read_name in
    let (form-ahead, form-inside) = leb128-forward u16_limit s name.next end form read-form in
    (omega arith, omega arith)

-- where no byte is left, a pair is missing
pub pair_none : (s : List ℕ) (at end : ℕ) → left_at s at end < 1 → pair s at end ≡ refused 1 at
unfolding pair
pair_none s at end h = rw (leb128_none u16_limit s at end h)

-- a short pair is the pair of name and form that stands there, and is of two bytes
pub pair_short : (s : List ℕ) (at end x y : ℕ) → short_pair s at end ≡ Some (x, y) → pair s at end ≡ answered (record { name = x; form = y; next = at + 2 })
unfolding short_pair
pair_short s at end x y given = by_pair (pair s at end) given
  where
    by_place : (p : ReadAttribute) (t : Bool) → eqb p.next (at + 2) ≡ t → ◌≡◌ {A = Option (ℕ × ℕ)} (cond t (Some (p.name, p.form)) None) (Some (x, y))
        → answered p ≡ answered (record { name = x; form = y; next = at + 2 })
    by_place p true e same =
        let both = some-injective _ _ same in
        rw (ap (λ b. b.0) both, ap (λ b. b.1) both, eqb-true p.next (at + 2) e) refl
    by_place p false e same = absurd (none-ne-some _ same)

    by_pair : (o : Outcome ReadAttribute) → of_two_bytes at o ≡ Some (x, y) → o ≡ answered (record { name = x; form = y; next = at + 2 })
    by_pair (answered p) same = by_place p (eqb p.next (at + 2)) refl same
    by_pair (refused n v) same = absurd (none-ne-some _ same)

-- where it ends, inside its part
pub short_place : (s : List ℕ) (at end x y : ℕ) → short_pair s at end ≡ Some (x, y) → at + 2 ≤ part_end s end
short_place s at end x y given =
    let (ahead, inside) = pair_forward s at end _ (pair_short s at end x y given) in
    inside

-- a pair that ends further on is no short one
not_short : (at : ℕ) (o : Outcome ReadAttribute) → ((p : ReadAttribute) → o ≡ answered p → at + 2 < p.next) → of_two_bytes at o ≡ None
not_short at (answered p) further =
    let far = further p refl in
    rw (ne_eqb p.next (at + 2) (λ e. omega (arith, far, e)))
not_short at (refused n v) further = refl

-- what was read, if it was
abbrev pub or_none : Outcome (ℕ × ℕ) → Option (ℕ × ℕ)
or_none (answered p) = Some p
or_none (refused n v) = None

-- a short pair in the order of the code: two bytes below 128, both 0 or neither of them
abbrev pub by_bytes : List ℕ → ℕ → ℕ → Option (ℕ × ℕ)
by_bytes s at end = or_none (do
  a ← read_byte s at end
  b ← read_byte s a.next end
  refuse_if (ltb 127 a.value) 0 0
  refuse_if (ltb 127 b.value) 0 0
  cond (eqb a.value 0) (demand (eqb b.value 0) 0 0) (refuse_if (eqb b.value 0) 0 0)
  answered (a.value, b.value))

pub short_pair_bytes : (s : List ℕ) (at end : ℕ) → short_pair s at end ≡ by_bytes s at end
unfolding short_pair pair
short_pair_bytes s at end = first_byte (read_byte s at end) refl
  where
    by_tests : (a b : Read ℕ) → eqb b.next (at + 2) ≡ true → (t u : Bool)
        → of_two_bytes at (cond t (demand u 5 0) (refuse_if u 6 0) >> answered (record { name = a.value; form = b.value; next = b.next }))
        ≡ or_none (cond t (demand u 0 0) (refuse_if u 0 0) >> answered (a.value, b.value))
    by_tests a b e true true = rw e
    by_tests a b e true false = refl
    by_tests a b e false true = refl
    by_tests a b e false false = rw e

    -- with a first byte of 128 or more
    first_long : (a : Read ℕ) → read_byte s at end ≡ answered a → ltb 127 a.value ≡ true → short_pair s at end ≡ by_bytes s at end
    first_long a e long = not_short at (pair s at end) further ∙ rw (e, long) (anyway (read_byte s a.next end))
      where
        further : (p : ReadAttribute) → pair s at end ≡ answered p → at + 2 < p.next
        further p g =
            let (name, read_name, g₁) = bind_answered (leb128 u16_limit s at end) _ p g in
            let (form, read-form, g₂) = bind_answered (leb128 u16_limit s name.next end) _ p g₁ in
            let (u, passes, g₃) = then_answered (tested name.value form.value) _ p g₂ in
            let past : p.next ≡ form.next = ap (λ q. q.next) (sym (same_answer g₃)) in
            let (ahead, inside) = leb128-forward u16_limit s name.next end form read-form in
            let far : at + 1 < name.next = u16-longer s at end a name e (ltb-true 127 a.value long) read_name in
            omega arith

        anyway : (o : Outcome (Read ℕ)) → ◌≡◌ {A = Option (ℕ × ℕ)} None (or_none (o >>= λ b. refused 0 0))
        anyway (answered b) = refl
        anyway (refused n v) = refl

    -- with a first byte that is a number, and a second of 128 or more
    second_long : (a b : Read ℕ) → leb128 u16_limit s at end ≡ answered a → read_byte s a.next end ≡ answered b → a.next ≡ at + 1 → ltb 127 b.value ≡ true → of_two_bytes at (pair s at end) ≡ None
    second_long a b one f next long = not_short at (pair s at end) further
      where
        further : (p : ReadAttribute) → pair s at end ≡ answered p → at + 2 < p.next
        further p g =
            let (form, read-form, g₂) = bind_answered (leb128 u16_limit s a.next end) _ p (rw one at g) in
            let (u, passes, g₃) = then_answered (tested a.value form.value) _ p g₂ in
            let past : p.next ≡ form.next = ap (λ q. q.next) (sym (same_answer g₃)) in
            let far : a.next + 1 < form.next = u16-longer s a.next end b form f (ltb-true 127 b.value long) read-form in
            omega arith

    first_byte : (o : Outcome (Read ℕ)) → read_byte s at end ≡ o → short_pair s at end ≡ by_bytes s at end
    first_byte (refused n v) e = rw (u16_missing s at end n v e, e)
    first_byte (answered a) e = by_size (ltb 127 a.value) refl
      where
        next : a.next ≡ at + 1
        next = let (inside, value, past) = byte-answered s at end a e in past

        by_size : (t : Bool) → ltb 127 a.value ≡ t → short_pair s at end ≡ by_bytes s at end
        by_size true long = first_long a e long
        by_size false low = second-byte (read_byte s a.next end) refl
          where
            one : leb128 u16_limit s at end ≡ answered a
            one = u16-one s at end a e (omega (arith, ltb-false 127 a.value low))

            second-byte : (o : Outcome (Read ℕ)) → read_byte s a.next end ≡ o → short_pair s at end ≡ by_bytes s at end
            second-byte (refused n v) f = rw (one, u16_missing s a.next end n v f, e, f)
            second-byte (answered b) f = by_second (ltb 127 b.value) refl
              where
                by_second : (t : Bool) → ltb 127 b.value ≡ t → short_pair s at end ≡ by_bytes s at end
                by_second true long = second_long a b one f next long ∙ rw (e, f, low, long) refl
                by_second false few =
                    let two = u16-one s a.next end b f (omega (arith, ltb-false 127 b.value few)) in
                    let (inside, value, past) = byte-answered s a.next end b f in
                    rw (one, two, e, f, low, few) (by_tests a b (eq-eqb b.next (at + 2) (omega (arith, next))) (eqb a.value 0) (eqb b.value 0))

-- What a short pair says of its two bytes.
record Short (s : List ℕ) (at end x y : ℕ) : Type 0 where
  pub first : read_byte s at end ≡ answered (record { value = x; next = at + 1 })
  pub second : read_byte s (at + 1) end ≡ answered (record { value = y; next = at + 2 })
  pub low : x < 128
  pub high : y < 128
  pub passes : tested x y ≡ answered tt

short_is : (s : List ℕ) (at end x y : ℕ) → short_pair s at end ≡ Some (x, y) → Short s at end x y
short_is s at end x y short = first_byte (read_byte s at end) refl
  where
    given : by_bytes s at end ≡ Some (x, y)
    given = sym (short_pair_bytes s at end) ∙ short

    low_byte : (v : ℕ) → ltb 127 v ≡ false → v < 128
    low_byte v e = omega (arith, ltb-false 127 v e)

    first_byte : (o : Outcome (Read ℕ)) → read_byte s at end ≡ o → Short s at end x y
    first_byte (refused n v) e = absurd (none-ne-some _ (rw e at given))
    first_byte (answered a) e = second-byte (read_byte s a.next end) refl
      where
        second-byte : (o : Outcome (Read ℕ)) → read_byte s a.next end ≡ o → Short s at end x y
        second-byte (refused n v) f = absurd (none-ne-some _ (rw (e, f) at given))
        second-byte (answered b) f = low-bytes (ltb 127 a.value) refl (ltb 127 b.value) refl (eqb a.value 0) refl (eqb b.value 0) refl
          where
            made : ltb 127 a.value ≡ false → ltb 127 b.value ≡ false → tested a.value b.value ≡ answered tt → ◌≡◌ {A = ℕ × ℕ} (a.value, b.value) (x, y) → Short s at end x y
            made et eu passes same =
                let is_x : a.value ≡ x = ap (λ p. p.0) same in
                let is_y : b.value ≡ y = ap (λ p. p.1) same in
                let (here, u, past) = byte-answered s at end a e in
                let (there, v, beyond) = byte-answered s a.next end b f in
                let next : b.next ≡ at + 2 = omega (arith, past, beyond) in
                record {
                  first = e ∙ rw (is_x, past) refl;
                  second = rw past at f ∙ rw (is_y, next) refl;
                  low = rw is_x at (low_byte a.value et);
                  high = rw is_y at (low_byte b.value eu);
                  passes = rw (is_x, is_y) at passes;
                }

            low-bytes : (t : Bool) → ltb 127 a.value ≡ t → (u : Bool) → ltb 127 b.value ≡ u → (v : Bool) → eqb a.value 0 ≡ v → (w : Bool) → eqb b.value 0 ≡ w
                → Short s at end x y
            low-bytes true et u eu v ev w ew = absurd (none-ne-some _ (rw (e, f, et) at given))
            low-bytes false et true eu v ev w ew = absurd (none-ne-some _ (rw (e, f, et, eu) at given))
            low-bytes false et false eu true ev false ew = absurd (none-ne-some _ (rw (e, f, et, eu, ev, ew) at given))
            low-bytes false et false eu false ev true ew = absurd (none-ne-some _ (rw (e, f, et, eu, ev, ew) at given))
            low-bytes false et false eu true ev true ew = made et eu (rw (ev, ew) refl) (some-injective _ _ (rw (e, f, et, eu, ev, ew) at given))
            low-bytes false et false eu false ev false ew = made et eu (rw (ev, ew) refl) (some-injective _ _ (rw (e, f, et, eu, ev, ew) at given))

-- one that is not 0 has no 0
both_some : (x y : ℕ) → tested x y ≡ answered tt → (x ≡ 0 → ⊥) → eqb y 0 ≡ false
both_some x y passes some-there = by_test (eqb y 0) refl
  where
    by_test : (u : Bool) → eqb y 0 ≡ u → eqb y 0 ≡ false
    by_test true eu = absurd (refused-answered (rw (ne_eqb x 0 some-there, eu) at passes))
    by_test false eu = eu

-- such a one is a code and a tag
pub head_short : (s : List ℕ) (at end x y : ℕ) → short_pair s at end ≡ Some (x, y) → (x ≡ 0 → ⊥)
    → head s at end ≡ answered (Some (record { code = x; tag = y; next = at + 2 }))
unfolding head
head_short s at end x y given not_last =
    let two = short_is s at end x y given in
    let inside = short_place s at end x y given in
    rw (
      ne_eqb (left_at s at end) 0 (λ e. omega (arith, inside, e)),
      unsigned-one s at end _ two.first two.low,
      ne_eqb x 0 not_last,
      u16-one s (at + 1) end _ two.second two.high,
      both_some x y two.passes not_last,
    )

-- a pair, and what it says of the pairs after it
abbrev pub with_pair : Outcome ReadAttribute → (ReadAttribute → Outcome Attributes) → Outcome Attributes
with_pair o more = do
  p ← o
  cond (eqb p.name 0) (answered (record { list = []; next = p.next })) (do
    rest ← more p
    answered (attribute_then p rest))

with_same : (o : Outcome ReadAttribute) (f g : ReadAttribute → Outcome Attributes) → ((p : ReadAttribute) → o ≡ answered p → f p ≡ g p) → with_pair o f ≡ with_pair o g
with_same (answered p) f g h = rw (h p refl)
with_same (refused n v) f g h = refl

-- any number of turns that is large enough gives the same
attributes_turns : (k j : ℕ) (s : List ℕ) (at end : ℕ) → left_at s at end ≤ k → left_at s at end ≤ j → attributes_in s k at end ≡ attributes_in s j at end
unfolding attributes_in
attributes_turns zero zero s at end hk hj = refl
attributes_turns zero (suc j) s at end hk hj = rw (pair_none s at end (omega arith))
attributes_turns (suc k) zero s at end hk hj = rw (pair_none s at end (omega arith))
attributes_turns (suc k) (suc j) s at end hk hj =
    with_same (pair s at end) _ _ λ p e.
    let (ahead, inside) = pair_forward s at end p e in
    attributes_turns k j s p.next end (omega arith) (omega arith)

-- the attributes are those of a pair and of the pairs after it
pub attributes_step : (s : List ℕ) (at end : ℕ) → attributes s at end ≡ with_pair (pair s at end) λ p. attributes s p.next end
unfolding attributes attributes_in
attributes_step s at end =
    attributes_turns (left_at s at end) (suc (left_at s at end)) s at end (omega arith) (omega arith)
    ∙ (with_same (pair s at end) _ _ λ p e.
    let (ahead, inside) = pair_forward s at end p e in
    attributes_turns (left_at s at end) (left_at s p.next end) s p.next end (omega arith) (omega arith))

-- the place past them, in the order of the code
pub attributes_end_step : (s : List ℕ) (at end : ℕ) → attributes_end s at end ≡ (do
  p ← pair s at end
  cond (eqb p.name 0) (answered p.next) (attributes_end s p.next end))
unfolding attributes_end
attributes_end_step s at end = rw (attributes_step s at end) (ends (pair s at end) (λ p. attributes s p.next end))
  where
    choice : (t : Bool) (p : ReadAttribute) (rest : Outcome Attributes)
        → (cond t (answered (record { list = []; next = p.next })) (rest >>= λ a. answered (attribute_then p a)) >>= λ a. answered a.next)
        ≡ cond t (answered p.next) (rest >>= λ a. answered a.next)
    choice true p rest = refl
    choice false p (answered a) = refl
    choice false p (refused n v) = refl

    ends : (o : Outcome ReadAttribute) (more : ReadAttribute → Outcome Attributes)
        → (with_pair o more >>= λ a. answered a.next) ≡ (o >>= λ p. cond (eqb p.name 0) (answered p.next) (more p >>= λ a. answered a.next))
    ends (answered p) more = choice (eqb p.name 0) p (more p)
    ends (refused n v) more = refl

-- past a short pair that is not 0 the pairs go on, and at 0 they end
pub pairs_on : (s : List ℕ) (at end x y : ℕ) → short_pair s at end ≡ Some (x, y) → (x ≡ 0 → ⊥) → attributes_end s at end ≡ attributes_end s (at + 2) end
pairs_on s at end x y given not_last = attributes_end_step s at end ∙ rw (pair_short s at end x y given, ne_eqb x 0 not_last)

pub pairs_last : (s : List ℕ) (at end x y : ℕ) → short_pair s at end ≡ Some (x, y) → x ≡ 0 → attributes_end s at end ≡ answered (at + 2)
pairs_last s at end x y given last = attributes_end_step s at end ∙ rw (pair_short s at end x y given, eq-eqb x 0 last)

-- two bytes from 1 to 127 are a short pair that is not the last
short_some : (s : List ℕ) (at end : ℕ) → is_short s at end ≡ true → (x : ℕ) × (y : ℕ) × (short_pair s at end ≡ Some (x, y)) × (x ≡ 0 → ⊥)
unfolding is_short
short_some s at end given = first_byte (read_byte s at end) refl
  where
    first_byte : (o : Outcome (Read ℕ)) → read_byte s at end ≡ o → (x : ℕ) × (y : ℕ) × (short_pair s at end ≡ Some (x, y)) × (x ≡ 0 → ⊥)
    first_byte (refused n v) e = absurd (true≢false (sym (rw e at given)))
    first_byte (answered a) e = second-byte (read_byte s a.next end) refl
      where
        second-byte : (o : Outcome (Read ℕ)) → read_byte s a.next end ≡ o → (x : ℕ) × (y : ℕ) × (short_pair s at end ≡ Some (x, y)) × (x ≡ 0 → ⊥)
        second-byte (refused n v) f = absurd (true≢false (sym (rw (e, f) at given)))
        second-byte (answered b) f = by_tests (ltb a.value 1) refl (ltb 127 a.value) refl (ltb b.value 1) refl
          where
            by_tests : (t : Bool) → ltb a.value 1 ≡ t → (u : Bool) → ltb 127 a.value ≡ u → (v : Bool) → ltb b.value 1 ≡ v
                → (x : ℕ) × (y : ℕ) × (short_pair s at end ≡ Some (x, y)) × (x ≡ 0 → ⊥)
            by_tests true et u eu v ev = absurd (true≢false (sym (rw (e, f, et) at given)))
            by_tests false et true eu v ev = absurd (true≢false (sym (rw (e, f, et, eu) at given)))
            by_tests false et false eu true ev = absurd (true≢false (sym (rw (e, f, et, eu, ev) at given)))
            by_tests false et false eu false ev =
                let few = ltb-true b.value 128 (rw (e, f, et, eu, ev) at given) in
                let first = ltb-false a.value 1 et in
                let second = ltb-false b.value 1 ev in (
                  a.value,
                  b.value,
                  short_pair_bytes s at end
                      ∙ rw (e, f, eu, le-ltb 127 b.value (omega arith), ne_eqb a.value 0 (λ z. omega (arith, first, z)), ne_eqb b.value 0 (λ z. omega (arith, second, z))) refl,
                  λ z. omega (arith, first, z),
                )

pub short_on : (s : List ℕ) (at end : ℕ) → is_short s at end ≡ true → attributes_end s at end ≡ attributes_end s (at + 2) end
short_on s at end short =
    let (x, y, given, not_last) = short_some s at end short in
    pairs_on s at end x y given not_last

pub short_inside : (s : List ℕ) (at end : ℕ) → is_short s at end ≡ true → at + 2 ≤ part_end s end
short_inside s at end short =
    let (x, y, given, not_last) = short_some s at end short in
    short_place s at end x y given

-- they move forward, and stay inside their part
attributes_forward_in : (k : ℕ) (s : List ℕ) (at end : ℕ) (a : Attributes) → attributes_in s k at end ≡ answered a → Forward s at end a.next
unfolding attributes_in
attributes_forward_in zero s at end a e = absurd (refused-answered e)
attributes_forward_in (suc k) s at end a e =
    let (p, one, rest) = bind_answered (pair s at end) _ a e in
    let (ahead, inside) = pair_forward s at end p one in
    chosen p (ahead, inside) (attributes_forward_in k s p.next end) (cond_is (eqb p.name 0) _ _ (answered a) rest)
  where
    chosen : (p : ReadAttribute) → Forward s at end p.next → ((b : Attributes) → attributes_in s k p.next end ≡ answered b → Forward s p.next end b.next)
        → ((eqb p.name 0 ≡ true) × (answered (record { list = []; next = p.next }) ≡ answered a))
        ⊎ ((eqb p.name 0 ≡ false) × ((attributes_in s k p.next end >>= λ rest. answered (attribute_then p rest)) ≡ answered a))
        → Forward s at end a.next
    chosen p (ahead, inside) more (inl (last, same)) =
        let past : a.next ≡ p.next = ap (λ b. b.next) (sym (same_answer same)) in
        (omega arith, omega arith)
    chosen p (ahead, inside) more (inr (not_last, on)) =
        let (rest, read, same) = bind_answered (attributes_in s k p.next end) _ a on in
        let (further, within) = more rest read in
        let past : a.next ≡ rest.next = ap (λ b. b.next) (sym (same_answer same)) in
        (omega arith, omega arith)

pub attributes-forward : (s : List ℕ) (at end : ℕ) (a : Attributes) → attributes s at end ≡ answered a → Forward s at end a.next
unfolding attributes
attributes-forward s at end a e = attributes_forward_in (left_at s at end) s at end a e

-- the side of a choice that is not none
not_none : (h : Head) (t : Bool) (m : Outcome (Option Head)) → cond t (answered None) m ≡ answered (Some h) → (t ≡ false) × (m ≡ answered (Some h))
not_none h true m e = absurd (none-ne-some _ (same_answer e))
not_none h false m e = (refl, e)

-- the code and the tag move forward, and stay inside their part
pub head-forward : (s : List ℕ) (at end : ℕ) (h : Head) → head s at end ≡ answered (Some h) → Forward s at end h.next
unfolding head
head-forward s at end h e =
    let (some_left, e₁) = not_none h (eqb (left_at s at end) 0) _ e in
    let (code, read-code, e₂) = bind_answered (leb128 unsigned_limit s at end) _ (Some h) e₁ in
    let (not-zero, e₃) = not_none h (eqb code.value 0) _ e₂ in
    let (tag, read-tag, e₄) = bind_answered (leb128 u16_limit s code.next end) _ (Some h) e₃ in
    let (u, passes, e₅) = then_answered (refuse_if (eqb tag.value 0) 4 0) _ (Some h) e₄ in
    let past : h.next ≡ tag.next = ap (λ h. h.next) (sym (some-injective _ _ (same_answer e₅))) in
    let (code-ahead, code-Inside) = leb128-forward unsigned_limit s at end code read-code in
    let (tag-ahead, tag-inside) = leb128-forward u16_limit s code.next end tag read-tag in
    (omega arith, omega arith)

-- what an answered declaration says: its attributes are those that its place has, and its place lies ahead
pub declaration_read : DeclarationsRead
unfolding declaration with_attributes
declaration_read s at end d e =
    let (o, read_head, rest) = bind_answered (head s at end) _ (Some d) e in
    by_cases o read_head rest
  where
    by_cases : (o : Option Head) → head s at end ≡ answered o → with_attributes s end o ≡ answered (Some d)
        → (at < d.place) × (attributes s d.place end ≡ answered (record { list = d.attributes; next = d.next }))
    by_cases None read_head rest = absurd (none-ne-some _ (same_answer rest))
    by_cases (Some h) read_head rest =
        let (a, read, same) = bind_answered (attributes s h.next end) _ (Some d) rest in
        let (ahead, inside) = head-forward s at end h read_head in
        rw (sym (some-injective _ _ (same_answer same))) (ahead, read)

-- a declaration moves forward, and stays inside its part
pub declaration-forward : DeclarationsForward
declaration-forward s at end d e =
    let (ahead, read) = declaration_read s at end d e in
    let (further, inside) = attributes-forward s d.place end _ read in
    (omega arith, omega arith)

none_there : (s : List ℕ) (at end : ℕ) → eqb (left_at s at end) 0 ≡ true → declaration s at end ≡ answered None
unfolding declaration head with_attributes
none_there s at end e = rw e

-- the table is read forward, and ends with its part
table_advances : (s : List ℕ) (end : ℕ) → Advances (λ place. declaration s place end) (λ d. d.next) (part_end s end)
table_advances s end = record {
  forward = λ at d e. declaration-forward s at end d e;
  none_at_stop = λ at h. none_there s at end (eq-eqb (left_at s at end) 0 (omega arith));
}

-- the table is a declaration and the table after it
pub table_step : TablesUnfold
unfolding table
table_step s at end = listing_step (λ place. declaration s place end) (λ d. d.next) (part_end s end) (table_advances s end) at

-- one declaration, in the order of the code: the place past its pairs stands for them
unfoldable pub with_end : List ℕ → ℕ → Option Head → Outcome (Option NameAbbreviation)
with_end s end None = answered None
with_end s end (Some h) = do
  next ← attributes_end s h.next end
  answered (Some (record { code = h.code; tag = h.tag; attributes = h.next; next = next }))

pub declared_step : (s : List ℕ) (at end : ℕ) → declared s at end ≡ (head s at end >>= with_end s end)
unfolding declared declaration with_attributes with_end attributes_end
declared_step s at end = by_cases (head s at end)
  where
    with_place : (h : Head) (o : Outcome Attributes)
        → ((o >>= λ a. answered (Some (record { code = h.code; tag = h.tag; place = h.next; attributes = a.list; next = a.next }))) >>= λ d. answered (option_map abbreviation_of d))
        ≡ ((o >>= λ a. answered a.next) >>= λ next. answered (Some (record { code = h.code; tag = h.tag; attributes = h.next; next = next })))
    with_place h (answered a) = refl
    with_place h (refused n v) = refl

    by_cases : (o : Outcome (Option Head)) → ((o >>= with_attributes s end) >>= λ d. answered (option_map abbreviation_of d)) ≡ (o >>= with_end s end)
    by_cases (answered None) = refl
    by_cases (answered (Some h)) = with_place h (attributes s h.next end)
    by_cases (refused n v) = refl

-- what reading on says, in the order of the code: a declaration decides, or what follows it does
abbrev pub decide : {B : Type 0} → Outcome (Option NameAbbreviation) → Outcome B → (NameAbbreviation → Outcome B) → Outcome B
decide (answered None) last more = last
decide (answered (Some d)) last more = more d
decide (refused n v) last more = refused n v

-- the search is answered by a declaration or by the table after it
pub found_step : (code : ℕ) (s : List ℕ) (at end : ℕ)
    → found s at end code ≡ decide (declared s at end) (answered None) λ d. cond (eqb d.code code) (answered (Some d)) (found s d.next end code)
unfolding found declared find
found_step code s at end = rw (table_step s at end) (by_cases (declaration s at end))
  where
    chosen : (t : Bool) (d : Declaration) (rest : Outcome (Option Declaration))
        → (cond t (answered (Some d)) rest >>= λ o. answered (option_map abbreviation_of o)) ≡ cond t (answered (Some (abbreviation_of d))) (rest >>= λ o. answered (option_map abbreviation_of o))
    chosen true d rest = refl
    chosen false d rest = refl

    by_cases : (o : Outcome (Option Declaration))
        → (find code (listed o λ d. table s d.next end) >>= λ o. answered (option_map abbreviation_of o))
        ≡ decide (o >>= λ d. answered (option_map abbreviation_of d)) (answered None) λ d. cond (eqb d.code code) (answered (Some d)) (find code (table s d.next end) >>= λ o. answered (option_map abbreviation_of o))
    by_cases (answered None) = refl
    by_cases (answered (Some d)) = chosen (eqb d.code code) d (find code (table s d.next end))
    by_cases (refused n v) = refl

-- a declaration that was read takes at least a byte
pub declared_forward : (s : List ℕ) (at end : ℕ) (d : NameAbbreviation) → answered (Some d) ≡ declared s at end → Forward s at end d.next
unfolding declared
declared_forward s at end d e = let (o, read, same) = bind_answered (declaration s at end) _ (Some d) (sym e) in by_found o read (same_answer same)
  where
    by_found : (o : Option Declaration) → declaration s at end ≡ answered o → option_map abbreviation_of o ≡ Some d → Forward s at end d.next
    by_found None read same = absurd (none-ne-some d same)
    by_found (Some x) read same = rw (← some-injective (abbreviation_of x) d same) (declaration-forward s at end x read)

-- no declaration has code 0
head-code : (s : List ℕ) (at end : ℕ) (h : Head) → head s at end ≡ answered (Some h) → eqb h.code 0 ≡ false
unfolding head
head-code s at end h e =
    let (some_left, e₁) = not_none h (eqb (left_at s at end) 0) _ e in
    let (code, read-code, e₂) = bind_answered (leb128 unsigned_limit s at end) _ (Some h) e₁ in
    let (not-zero, e₃) = not_none h (eqb code.value 0) _ e₂ in
    let (tag, read-tag, e₄) = bind_answered (leb128 u16_limit s code.next end) _ (Some h) e₃ in
    let (u, passes, e₅) = then_answered (refuse_if (eqb tag.value 0) 4 0) _ (Some h) e₄ in
    let this : code.value ≡ h.code = ap (λ h. h.code) (some-injective _ _ (same_answer e₅)) in
    rw (sym this) not-zero

code-some : (s : List ℕ) (at end : ℕ) (d : Declaration) → declaration s at end ≡ answered (Some d) → eqb d.code 0 ≡ false
unfolding declaration with_attributes
code-some s at end d e =
    let (o, read, rest) = bind_answered (head s at end) _ (Some d) e in
    by_cases o read rest
  where
    by_cases : (o : Option Head) → head s at end ≡ answered o → with_attributes s end o ≡ answered (Some d) → eqb d.code 0 ≡ false
    by_cases None read rest = absurd (none-ne-some _ (same_answer rest))
    by_cases (Some h) read rest =
        let (a, pairs, same) = bind_answered (attributes s h.next end) _ (Some d) rest in
        let this : h.code ≡ d.code = ap (λ d. d.code) (some-injective _ _ (same_answer same)) in
        rw (sym this) (head-code s at end h read)

-- so the search for it reads the whole table
parsed_in : (turns : ℕ) (s : List ℕ) (at end : ℕ)
    → ending (listing (λ place. declaration s place end) (λ d. d.next) turns at)
    ≡ ((find 0 (listing (λ place. declaration s place end) (λ d. d.next) turns at) >>= λ d. answered (option_map abbreviation_of d)) >>= λ o. answered tt)
unfolding listing ending find
parsed_in zero s at end = refl
parsed_in (suc turns) s at end = by_cases (declaration s at end) refl (λ next. parsed_in turns s next end)
  where
    by_cases : (o : Outcome (Option Declaration)) → declaration s at end ≡ o
        → ((next : ℕ)
        → ending (listing (λ place. declaration s place end) (λ d. d.next) turns next)
        ≡ ((find 0 (listing (λ place. declaration s place end) (λ d. d.next) turns next) >>= λ d. answered (option_map abbreviation_of d)) >>= λ o. answered tt))
        → ending (listed o λ d. listing (λ place. declaration s place end) (λ d. d.next) turns d.next)
        ≡ ((find 0 (listed o λ d. listing (λ place. declaration s place end) (λ d. d.next) turns d.next) >>= λ d. answered (option_map abbreviation_of d)) >>= λ o. answered tt)
    by_cases (answered None) read more = refl
    by_cases (answered (Some d)) read more = rw (code-some s at end d read) (more d.next)
    by_cases (refused n v) read more = refl

pub parsed_found : (s : List ℕ) (at end : ℕ) → parsed s at end ≡ (found s at end 0 >>= λ o. answered tt)
unfolding parsed found table
parsed_found s at end = parsed_in (part_end s end - at) s at end

-- the table looks at no byte outside its part: pairs, heads, declarations and so the table are the same in sections with the same
-- bytes there
pair_part : (s t : List ℕ) (at end : ℕ) → slice at end s ≡ slice at end t → pair s at end ≡ pair t at end
unfolding pair
pair_part s t at end e =
    bind_both (leb128 u16_limit s at end) (leb128 u16_limit t at end) _ _ (leb128_part u16_limit s t at end e) λ name read.
    let (ahead, inside) = leb128-forward u16_limit s at end name read in
    let rest = slice-from s t at name.next end (omega arith) e in
    rw (leb128_part u16_limit s t name.next end rest)

attributes_part_in : (k : ℕ) (s t : List ℕ) (at end : ℕ) → slice at end s ≡ slice at end t → attributes_in s k at end ≡ attributes_in t k at end
unfolding attributes_in
attributes_part_in zero s t at end e = refl
attributes_part_in (suc k) s t at end e =
    (with_same (pair s at end) _ _ λ p read.
    let (ahead, inside) = pair_forward s at end p read in
    attributes_part_in k s t p.next end (slice-from s t at p.next end (omega arith) e))
    ∙ ap (λ o. with_pair o λ p. attributes_in t k p.next end) (pair_part s t at end e)

attributes_part : (s t : List ℕ) (at end : ℕ) → slice at end s ≡ slice at end t → attributes s at end ≡ attributes t at end
unfolding attributes
attributes_part s t at end e = rw (slice-left s t at end e) (attributes_part_in (left_at t at end) s t at end e)

head_part : (s t : List ℕ) (at end : ℕ) → slice at end s ≡ slice at end t → head s at end ≡ head t at end
unfolding head
head_part s t at end e =
    rw (slice-left s t at end e)
    (ap (cond (eqb (left_at t at end) 0) (answered None))
    (bind_both (leb128 unsigned_limit s at end) (leb128 unsigned_limit t at end) _ _ (leb128_part unsigned_limit s t at end e) λ code read.
    let (ahead, inside) = leb128-forward unsigned_limit s at end code read in
    let rest = slice-from s t at code.next end (omega arith) e in
    rw (leb128_part u16_limit s t code.next end rest)))

declaration_part : (s t : List ℕ) (at end : ℕ) → slice at end s ≡ slice at end t → declaration s at end ≡ declaration t at end
unfolding declaration with_attributes
declaration_part s t at end e = bind_both (head s at end) (head t at end) _ _ (head_part s t at end e) by_cases
  where
    by_cases : (o : Option Head) → head s at end ≡ answered o → with_attributes s end o ≡ with_attributes t end o
    by_cases None read = refl
    by_cases (Some h) read =
        let (ahead, inside) = head-forward s at end h read in
        rw (attributes_part s t h.next end (slice-from s t at h.next end (omega arith) e))

pub table_part : TablesInPart
unfolding table
table_part s t at end e =
    rw (slice-left s t at end e)
    (listing_agree (λ place. declaration s place end) (λ place. declaration t place end) (λ d. d.next) (left_at t at end) at
    (λ place h. declaration_part s t place end (slice-from s t at place end h e))
    λ place d read. let (ahead, inside) = declaration-forward s place end d read in omega arith)

pub parsed_part : (s t : List ℕ) (at end : ℕ) → slice at end s ≡ slice at end t → parsed s at end ≡ parsed t at end
unfolding parsed
parsed_part s t at end e = rw (table_part s t at end e)

-- what a search finds, by the listing with its turns
found_in : (turns code : ℕ) (s : List ℕ) (at end : ℕ) (d : Declaration) → find code (listing (λ place. declaration s place end) (λ d. d.next) turns at) ≡ answered (Some d)
    → (d.code ≡ code) × ((place : ℕ) × (declaration s place end ≡ answered (Some d)))
unfolding listing find
found_in zero code s at end d e = absurd (none-ne-some d (same_answer e))
found_in (suc turns) code s at end d e = by_cases (declaration s at end) refl (λ next. found_in turns code s next end d) e
  where
    chosen : (t : Bool) (f : Declaration) → eqb f.code code ≡ t → declaration s at end ≡ answered (Some f) → (rest : Outcome (Option Declaration))
        → (rest ≡ answered (Some d) → (d.code ≡ code) × ((place : ℕ) × (declaration s place end ≡ answered (Some d))))
        → cond t (answered (Some f)) rest ≡ answered (Some d) → (d.code ≡ code) × ((place : ℕ) × (declaration s place end ≡ answered (Some d)))
    chosen true f same read rest more e =
        let this : f ≡ d = some-injective f d (same_answer e) in
        (rw (sym this) (eqb-true f.code code same), (at, rw (sym this) read))
    chosen false f other read rest more e = more e

    by_cases : (o : Outcome (Option Declaration)) → declaration s at end ≡ o
        → ((next : ℕ) → find code (listing (λ place. declaration s place end) (λ d. d.next) turns next) ≡ answered (Some d) → (d.code ≡ code) × ((place : ℕ) × (declaration s place end ≡ answered (Some d))))
        → find code (listed o λ d. listing (λ place. declaration s place end) (λ d. d.next) turns d.next) ≡ answered (Some d)
        → (d.code ≡ code) × ((place : ℕ) × (declaration s place end ≡ answered (Some d)))
    by_cases (answered None) read more e = absurd (none-ne-some d (same_answer e))
    by_cases (answered (Some f)) read more e = chosen (eqb f.code code) f refl read _ (more f.next) e
    by_cases (refused n v) read more e = absurd (refused-answered e)

pub found_in_table : FoundInTable
unfolding table
found_in_table code s at end d e = found_in (part_end s end - at) code s at end d e
