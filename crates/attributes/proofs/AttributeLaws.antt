-- Laws of attributes: the values one pair at a time, with no count of turns; the first attribute of each
-- name, with one attribute more behind those that were read; and whether it has the number of a unit.
use Prim.Native.Nat.{ℕ, zero, suc, ◌≤◌}
use mathlib.Core.Path.{◌≡◌, refl, sym, ap, ◌∙◌}
use mathlib.Core.Bool.{Bool, true, false, false≢true, cond}
use mathlib.Core.Logic.{◌⊎◌, inl, inr}
use mathlib.Core.List.{List, [], ◌∷◌, ◌++◌, append-nil, append_assoc, map}
use native.Mathlib.Omega.{arith}
use lib.Dec.{ltb, eqb}
use borrow.Author.Tests.{eqb-true, eqb-false, eq-eqb, ne_eqb}
use Rattle.reader.specs.Outcome.{Outcome, answered, refused, ◌>>=◌}
use Rattle.reader.specs.Parts.{left_at}
use Rattle.reader.specs.Lists.{memberb}
use Rattle.reader.specs.declared.endianity.RunTimeEndian.{RunTimeEndian}
use Rattle.reader.proofs.OutcomeLaws.{refused-answered, same_answer, bind_answered, cond_is}
use Rattle.abbreviations.specs.Abbreviations.{Attributes, pair, attribute_then, attributes_in, attributes}
use Rattle.abbreviations.specs.declared.ReadAttribute.{ReadAttribute}
use Rattle.abbreviations.proofs.AbbreviationLaws.{pair_forward, pair_none}
use Rattle.forms.specs.Forms.{form_value}
use Rattle.forms.proofs.FormLaws as forms
use Rattle.forms.specs.declared.NameAttributeValue.{NameAttributeValue}
use Rattle.attributes.specs.declared.attribute.FirstAttribute.{FirstAttribute}
use Rattle.attributes.specs.declared.facts.Facts.{Facts}
use Rattle.attributes.specs.Meaning.{unit_number_in, unit_number}
use Rattle.attributes.specs.Sanity.{EntryValuesOnward, stands, StandsExactly}
use Rattle.attributes.specs.Inner.{ValuesDeclared}
use Rattle.attributes.specs.Attributes.{NameAttribute, Values, value_then, values, kept, first, compile_unit_name, type_unit_name, die_offset_name, parent_name, type_hash_name, facts}
use Rattle.attributes.specs.Inner.{values_in, values_from, facts_read}
use Rattle.reader.specs.declared.reader.Read.{Read}
use Rattle.std.specs.Prelude.{Option, Some, None}
use Rattle.std.specs.Option.{option_or}

-- a pair, its value, and the values after it
abbrev turn : RunTimeEndian → List ℕ → ℕ → ℕ → Outcome ReadAttribute → (ReadAttribute → ℕ → Outcome Values) → Outcome Values
turn order s at end o more = do
  p ← o
  cond (eqb p.name 0) (answered (record { list = []; next = at })) (do
    v ← form_value p.form order s at end
    rest ← more p v.next
    answered (value_then p.name p.form v.value rest))

turn-same : (order : RunTimeEndian) (s : List ℕ) (at end : ℕ) (o : Outcome ReadAttribute) (f g : ReadAttribute → ℕ → Outcome Values)
    → ((p : ReadAttribute) → o ≡ answered p → (next : ℕ) → f p next ≡ g p next) → turn order s at end o f ≡ turn order s at end o g
turn-same order s at end (answered p) f g h = ap (cond (eqb p.name 0) _) (valued (form_value p.form order s at end))
  where
    valued : (o : Outcome (Read NameAttributeValue))
        → (o >>= λ v. f p v.next >>= λ rest. answered (value_then p.name p.form v.value rest))
        ≡ (o >>= λ v. g p v.next >>= λ rest. answered (value_then p.name p.form v.value rest))
    valued (answered v) = rw (h p refl v.next)
    valued (refused n v) = refl
turn-same order s at end (refused n v) f g h = refl

-- any number of turns that is large enough gives the same
values_turns : (k j : ℕ) (order : RunTimeEndian) (s : List ℕ) (pairs pairsEnd at end : ℕ) → left_at s pairs pairsEnd ≤ k → left_at s pairs pairsEnd ≤ j
    → values_in k order s pairs pairsEnd at end ≡ values_in j order s pairs pairsEnd at end
unfolding values_in
values_turns zero zero order s pairs pairsEnd at end hk hj = refl
values_turns zero (suc j) order s pairs pairsEnd at end hk hj = rw (pair_none s pairs pairsEnd (omega arith))
values_turns (suc k) zero order s pairs pairsEnd at end hk hj = rw (pair_none s pairs pairsEnd (omega arith))
values_turns (suc k) (suc j) order s pairs pairsEnd at end hk hj =
    turn-same order s at end (pair s pairs pairsEnd) _ _ λ p e next.
    let (ahead, inside) = pair_forward s pairs pairsEnd p e in
    values_turns k j order s p.next pairsEnd next end (omega arith) (omega arith)

-- the values are that of a pair and those after it
turn_step : (order : RunTimeEndian) (s : List ℕ) (pairs pairsEnd at end : ℕ)
    → values_from order s pairs pairsEnd at end ≡ turn order s at end (pair s pairs pairsEnd) λ p next. values_from order s p.next pairsEnd next end
unfolding values_from values_in
turn_step order s pairs pairsEnd at end =
    values_turns (left_at s pairs pairsEnd) (suc (left_at s pairs pairsEnd)) order s pairs pairsEnd at end (omega arith) (omega arith)
    ∙ (turn-same order s at end (pair s pairs pairsEnd) _ _ λ p e next.
    let (ahead, inside) = pair_forward s pairs pairsEnd p e in
    values_turns (left_at s pairs pairsEnd) (left_at s p.next pairsEnd) order s p.next pairsEnd next end (omega arith) (omega arith))

-- the first attribute of a name in a list with another behind it
pub first_behind : (wanted : ℕ) (list more : List NameAttribute) → first wanted (list ++ more) ≡ option_or (first wanted list) (first wanted more)
unfolding first
first_behind wanted [] more = refl
first_behind wanted (a ∷ list) more = by_name (eqb a.name wanted) (first_behind wanted list more)
  where
    by_name : (t : Bool) → first wanted (list ++ more) ≡ option_or (first wanted list) (first wanted more)
        → cond t (Some (kept a.form a.value)) (first wanted (list ++ more)) ≡ option_or (cond t (Some (kept a.form a.value)) (first wanted list)) (first wanted more)
    by_name true rest = refl
    by_name false rest = rest

-- so to the facts of a list, an attribute behind it adds one where it is the first of its name
pub facts_more : (list : List NameAttribute) (a : NameAttribute) → facts (list ++ (a ∷ [])) ≡ record {
  compile_unit = option_or (facts list).compile_unit (cond (eqb a.name 1) (Some (kept a.form a.value)) None);
  type_unit = option_or (facts list).type_unit (cond (eqb a.name 2) (Some (kept a.form a.value)) None);
  die_offset = option_or (facts list).die_offset (cond (eqb a.name 3) (Some (kept a.form a.value)) None);
  parent = option_or (facts list).parent (cond (eqb a.name 4) (Some (kept a.form a.value)) None);
  type_hash = option_or (facts list).type_hash (cond (eqb a.name 5) (Some (kept a.form a.value)) None);
}
unfolding facts first
facts_more list a =
    rw (
      first_behind compile_unit_name list (a ∷ []),
      first_behind type_unit_name list (a ∷ []),
      first_behind die_offset_name list (a ∷ []),
      first_behind parent_name list (a ∷ []),
      first_behind type_hash_name list (a ∷ []),
    )

-- where it has none of the five names, it adds nothing
pub facts_other : (list : List NameAttribute) (a : NameAttribute) → (a.name ≡ 1 → ⊥) → (a.name ≡ 2 → ⊥) → (a.name ≡ 3 → ⊥) → (a.name ≡ 4 → ⊥) → (a.name ≡ 5 → ⊥)
    → facts (list ++ (a ∷ [])) ≡ facts list
unfolding facts
facts_other list a compile types die up hash =
    facts_more list a
    ∙ rw (
      ne_eqb a.name 1 compile,
      ne_eqb a.name 2 types,
      ne_eqb a.name 3 die,
      ne_eqb a.name 4 up,
      ne_eqb a.name 5 hash,
      or_none (first compile_unit_name list),
      or_none (first type_unit_name list),
      or_none (first die_offset_name list),
      or_none (first parent_name list),
      or_none (first type_hash_name list),
    )
  where
    or_none : (f : Option FirstAttribute) → option_or f None ≡ f
    or_none None = refl
    or_none (Some a) = refl

-- the facts of some attributes, and of those that are left to read behind them
unfoldable pub facts_behind : List NameAttribute → RunTimeEndian → List ℕ → ℕ → ℕ → ℕ → ℕ → Outcome (Read Facts)
facts_behind list order s pairs pairsEnd at end = do
  v ← values_from order s pairs pairsEnd at end
  answered (record { value = facts (list ++ v.list); next = v.next })

-- at first none was read, and no fact is kept
pub facts_none : (f : Facts) → (f.compile_unit ≡ None) × ((f.type_unit ≡ None) × ((f.die_offset ≡ None) × ((f.parent ≡ None) × (f.type_hash ≡ None)))) → f ≡ facts []
unfolding facts first
facts_none f (compile, (types, (die, (up, hash)))) = rw (compile, types, die, up, hash)

pub facts_start : (order : RunTimeEndian) (s : List ℕ) (pairs pairsEnd at end : ℕ) → facts_read order s pairs pairsEnd at end ≡ facts_behind [] order s pairs pairsEnd at end
unfolding facts_read facts_behind
facts_start order s pairs pairsEnd at end = refl

-- one attribute, in the order of the code
pub facts_step : (list : List NameAttribute) (order : RunTimeEndian) (s : List ℕ) (pairs pairsEnd at end : ℕ) → facts_behind list order s pairs pairsEnd at end ≡ (do
  p ← pair s pairs pairsEnd
  cond (eqb p.name 0) (answered (record { value = facts list; next = at })) (do
    v ← form_value p.form order s at end
    facts_behind (list ++ (record { name = p.name; form = p.form; value = v.value } ∷ [])) order s p.next pairsEnd v.next end))
unfolding facts_behind
facts_step list order s pairs pairsEnd at end = rw (turn_step order s pairs pairsEnd at end) (by_pair (pair s pairs pairsEnd))
  where
    told : List NameAttribute → Values → Outcome (Read Facts)
    told list v = answered (record { value = facts (list ++ v.list); next = v.next })

    by_rest : (a : NameAttribute) (o : Outcome Values) → ((o >>= λ rest. answered (value_then a.name a.form a.value rest)) >>= told list) ≡ (o >>= told (list ++ (a ∷ [])))
    by_rest a (answered rest) = rw (append_assoc list (a ∷ []) rest.list) refl
    by_rest a (refused n v) = refl

    by_value : (p : ReadAttribute) (o : Outcome (Read NameAttributeValue))
        → ((o >>= λ v. values_from order s p.next pairsEnd v.next end >>= λ rest. answered (value_then p.name p.form v.value rest)) >>= told list)
        ≡ (o >>= λ v. values_from order s p.next pairsEnd v.next end >>= told (list ++ (record { name = p.name; form = p.form; value = v.value } ∷ [])))
    by_value p (answered v) = by_rest (record { name = p.name; form = p.form; value = v.value }) (values_from order s p.next pairsEnd v.next end)
    by_value p (refused n v) = refl

    by_name : (t : Bool) (p : ReadAttribute)
        → (cond t (answered (record { list = []; next = at })) (form_value p.form order s at end >>= λ v. values_from order s p.next pairsEnd v.next end >>= λ rest. answered (value_then p.name p.form v.value rest)) >>= told list)
        ≡ cond t (answered (record { value = facts list; next = at })) (form_value p.form order s at end >>= λ v. values_from order s p.next pairsEnd v.next end >>= told (list ++ (record { name = p.name; form = p.form; value = v.value } ∷ [])))
    by_name true p = rw (append-nil list) refl
    by_name false p = by_value p (form_value p.form order s at end)

    by_pair : (o : Outcome ReadAttribute)
        → (turn order s at end o (λ p next. values_from order s p.next pairsEnd next end) >>= told list)
        ≡ (o >>= λ p. cond (eqb p.name 0) (answered (record { value = facts list; next = at })) (form_value p.form order s at end >>= λ v. values_from order s p.next pairsEnd v.next end >>= told (list ++ (record { name = p.name; form = p.form; value = v.value } ∷ []))))
    by_pair (answered p) = by_name (eqb p.name 0) p
    by_pair (refused n v) = refl

-- with the same number of turns, pairs that can all be read give the values of their attributes
values_declared_in : (k : ℕ) (order : RunTimeEndian) (s : List ℕ) (pairs pairsEnd : ℕ) (a : Attributes) (at end : ℕ) → attributes_in s k pairs pairsEnd ≡ answered a
    → values_in k order s pairs pairsEnd at end ≡ values order s a.list at end
unfolding attributes_in values_in values
values_declared_in zero order s pairs pairsEnd a at end e = absurd (refused-answered e)
values_declared_in (suc k) order s pairs pairsEnd a at end e =
    let (p, one, rest) = bind_answered (pair s pairs pairsEnd) _ a e in
    rw one (chosen p (λ b at. values_declared_in k order s p.next pairsEnd b at end) (cond_is (eqb p.name 0) _ _ (answered a) rest))
  where
    by_value : (p : ReadAttribute) (b : Attributes) → attributes_in s k p.next pairsEnd ≡ answered b
        → ((b : Attributes) (at : ℕ) → attributes_in s k p.next pairsEnd ≡ answered b → values_in k order s p.next pairsEnd at end ≡ values order s b.list at end)
        → (o : Outcome (Read NameAttributeValue))
        → (o >>= λ v. values_in k order s p.next pairsEnd v.next end >>= λ rest. answered (value_then p.name p.form v.value rest))
        ≡ (o >>= λ v. values order s b.list v.next end >>= λ rest. answered (value_then p.name p.form v.value rest))
    by_value p b read more (answered v) = rw (more b v.next read)
    by_value p b read more (refused n v) = refl

    chosen : (p : ReadAttribute)
        → ((b : Attributes) (at : ℕ) → attributes_in s k p.next pairsEnd ≡ answered b → values_in k order s p.next pairsEnd at end ≡ values order s b.list at end)
        → ((eqb p.name 0 ≡ true) × (answered (record { list = []; next = p.next }) ≡ answered a))
        ⊎ ((eqb p.name 0 ≡ false) × ((attributes_in s k p.next pairsEnd >>= λ rest. answered (attribute_then p rest)) ≡ answered a))
        → cond (eqb p.name 0) (answered (record { list = []; next = at }))
        (form_value p.form order s at end >>= λ v. values_in k order s p.next pairsEnd v.next end >>= λ rest. answered (value_then p.name p.form v.value rest))
        ≡ values order s a.list at end
    chosen p more (inl (last, same)) = rw (last, ← same_answer same) refl
    chosen p more (inr (not_last, on)) =
        let (b, read, same) = bind_answered (attributes_in s k p.next pairsEnd) _ a on in
        rw (not_last, ← same_answer same) (by_value p b read more (form_value p.form order s at end))

pub values-declared : ValuesDeclared
unfolding attributes values_from
values-declared order s pairs pairsEnd a at end e = values_declared_in (left_at s pairs pairsEnd) order s pairs pairsEnd a at end e

-- so the facts are those of the declaration's attributes
pub facts_declared : (order : RunTimeEndian) (s : List ℕ) (pairs pairsEnd : ℕ) (a : Attributes) (at end : ℕ) → attributes s pairs pairsEnd ≡ answered a
    → facts_read order s pairs pairsEnd at end ≡ (values order s a.list at end >>= λ v. answered (record { value = facts v.list; next = v.next }))
unfolding facts_read
facts_declared order s pairs pairsEnd a at end e = rw (values-declared order s pairs pairsEnd a at end e)

pub entry_values_onward : EntryValuesOnward
unfolding values
entry_values_onward order s [] at end v inside e =
    let past : v.next ≡ at = ap (λ v. v.next) (sym (same_answer e)) in
    (omega arith, omega arith)
entry_values_onward order s (a ∷ more) at end v inside e =
    let (one, read, rest) = bind_answered (form_value a.form order s at end) _ v e in
    let (others, read-others, same) = bind_answered (values order s more one.next end) _ v rest in
    let (ahead, within) = forms.values_onward a.form order s at end one inside read in
    let (further, still) = entry_values_onward order s more one.next end others within read-others in
    let past : v.next ≡ others.next = ap (λ v. v.next) (sym (same_answer same)) in
    (omega arith, omega arith)

pub stands_exactly : StandsExactly
unfolding first memberb
stands_exactly name [] = refl
stands_exactly name (a ∷ more) = by_name (eqb a.name name) refl (stands_exactly name more)
  where
    by_name : (same : Bool) → eqb a.name name ≡ same → stands (first name more) ≡ memberb name (map (λ a. a.name) more)
        → stands (first name (a ∷ more)) ≡ memberb name (map (λ a. a.name) (a ∷ more))
    by_name true e rest = rw (e, eq-eqb _ _ (sym (eqb-true a.name name e))) refl
    by_name false e rest = rw (e, ne_eqb name a.name (λ q. eqb-false a.name name e (sym q))) rest

-- where there is no attribute of the name, there is no number
pub no_number : (a : Option FirstAttribute) → stands a ≡ false → unit_number a ≡ answered None
unfolding unit_number
no_number None h = refl
no_number (Some a) h = absurd (false≢true (sym h))

-- the answer is some, and not none; or it is a refusal
abbrev pub SomeOrRefused : {A B : Type 0} → (B → A) → Outcome A → Type 0
SomeOrRefused {A} {B} some o = ((b : B) × (o ≡ answered (some b))) ⊎ ((n v : ℕ) × (o ≡ refused n v))

-- where there is one, it has a number or is refused
pub some_number : (a : Option FirstAttribute) → stands a ≡ true → SomeOrRefused Some (unit_number a)
unfolding unit_number unit_number_in
some_number None h = absurd (false≢true h)
some_number (Some a) h = by_value a.value
  where
    by_size : (n : ℕ) (beyond : Bool) → SomeOrRefused Some (cond beyond (refused 11 n) (answered (Some n)))
    by_size n true = inr (11, n, refl)
    by_size n false = inl (n, refl)

    by_value : (value : NameAttributeValue) → SomeOrRefused Some (unit_number_in a.form value)
    by_value (NameAttributeValue.Unsigned n) = by_size n (ltb 4294967295 n)
    by_value (NameAttributeValue.Offset n) = inr (12, a.form, refl)
    by_value (NameAttributeValue.Flag b) = inr (12, a.form, refl)
