-- Laws of the twelve forms: a value does not go back, and stays inside its part.
use Prim.Native.Nat.{ℕ, ◌≤◌}
use mathlib.Core.Path.{◌≡◌, sym, ap}
use mathlib.Core.Bool.{Bool, true, false, cond, not}
use mathlib.Core.List.{List}
use native.Mathlib.Omega.{arith}
use lib.Dec.{eqb}
use Rattle.reader.specs.Outcome.{Outcome, answered, refused, ◌>>=◌}
use Rattle.reader.specs.Parts.{part_end, Forward}
use Rattle.reader.specs.Numbers.{read_byte, read_number}
use Rattle.reader.specs.declared.reader.Read.{Read}
use Rattle.leb128.specs.Leb128.{leb128, unsigned_limit}
use Rattle.reader.specs.declared.endianity.RunTimeEndian.{RunTimeEndian}
use Rattle.reader.specs.declared.endianity.RunTimeEndian.TheVariants.{Little}
use Rattle.reader.proofs.OutcomeLaws.{refused-answered, same_answer, bind_answered}
use Rattle.reader.proofs.NumberLaws.{read_forward}
use Rattle.leb128.proofs.Leb128Laws.{leb128-forward}
use Rattle.forms.specs.declared.NameAttributeValue.{NameAttributeValue}
use Rattle.forms.specs.Forms.{as_flag, as_unsigned, as_offset, form_value}
use Rattle.forms.specs.Sanity.{ValuesOnward}

module _ (s : List ℕ) (at end : ℕ) (inside : at ≤ part_end s end) where
  -- a value that goes on inside the part, if it is answered
  abbrev Onward : Outcome (Read NameAttributeValue) → Type 0
  Onward o = (v : (Read NameAttributeValue)) → o ≡ answered v → (at ≤ v.next) × (v.next ≤ part_end s end)

  abbrev Moves : Outcome (Read ℕ) → Type 0
  Moves o = (r : Read ℕ) → o ≡ answered r → Forward s at end r.next

  -- a number that was read, as a value of any kind
  as_value : (kind : ℕ → NameAttributeValue) (o : Outcome (Read ℕ)) → Moves o → Onward (o >>= λ n. answered (record { value = kind n.value; next = n.next }))
  as_value kind o moves v e =
      let (r, read, same) = bind_answered o _ v e in
      let (ahead, within) = moves r read in
      let past : v.next ≡ r.next = ap (λ v. v.next) (sym (same_answer same)) in
      (omega arith, omega arith)

  -- the value of a form that takes no byte
  here : (value : NameAttributeValue) → Onward (answered (record { value = value; next = at }))
  here value v e =
      let past : v.next ≡ at = ap (λ v. v.next) (sym (same_answer e)) in
      (omega arith, omega arith)

  no_value : (n v : ℕ) → Onward (refused n v)
  no_value n v w e = absurd (refused-answered e)

  -- the value of this form or of another
  or : (form code : ℕ) (x y : Outcome (Read NameAttributeValue)) → Onward x → Onward y → Onward (cond (eqb form code) x y)
  or form code x y this other = chosen (eqb form code)
    where
      chosen : (t : Bool) → Onward (cond t x y)
      chosen true = this
      chosen false = other

  byte : Moves (read_byte s at end)
  unfolding read_byte
  byte r e = read_forward 1 Little s at end r (omega arith) e

  number : (n : ℕ) (order : RunTimeEndian) → 1 ≤ n → Moves (read_number n order s at end)
  number n order h r e = read_forward n order s at end r h e

  leb : Moves (leb128 unsigned_limit s at end)
  leb r e = leb128-forward unsigned_limit s at end r e

  form_onward : (form : ℕ) (order : RunTimeEndian) → Onward (form_value form order s at end)
  unfolding form_value as_flag as_unsigned as_offset
  form_onward form order =
      or form 0x0c _ _ (as_value (λ n. NameAttributeValue.Flag (not (eqb n 0))) _ byte)
      (or form 0x19 _ _ (here (NameAttributeValue.Flag true))
      (or form 0x0b _ _ (as_value (λ n. NameAttributeValue.Unsigned n) _ byte)
      (or form 0x05 _ _ (as_value (λ n. NameAttributeValue.Unsigned n) _ (number 2 order (omega arith)))
      (or form 0x06 _ _ (as_value (λ n. NameAttributeValue.Unsigned n) _ (number 4 order (omega arith)))
      (or form 0x07 _ _ (as_value (λ n. NameAttributeValue.Unsigned n) _ (number 8 order (omega arith)))
      (or form 0x0f _ _ (as_value (λ n. NameAttributeValue.Unsigned n) _ leb)
      (or form 0x11 _ _ (as_value (λ n. NameAttributeValue.Offset n) _ byte)
      (or form 0x12 _ _ (as_value (λ n. NameAttributeValue.Offset n) _ (number 2 order (omega arith)))
      (or form 0x13 _ _ (as_value (λ n. NameAttributeValue.Offset n) _ (number 4 order (omega arith)))
      (or form 0x14 _ _ (as_value (λ n. NameAttributeValue.Offset n) _ (number 8 order (omega arith)))
      (or form 0x15 _ _ (as_value (λ n. NameAttributeValue.Offset n) _ leb)
      (no_value 9 form))))))))))))

pub values_onward : ValuesOnward
values_onward form order s at end v inside e = form_onward s at end inside form order v e
