-- Laws of the choice of a unit: what decides it, and where the order of the two attributes makes no difference.
use Prim.Native.Nat.{ℕ}
use mathlib.Core.Path.{◌≡◌, refl, sym}
use mathlib.Core.Bool.{Bool, true, false, false≢true, ◌&&◌}
use mathlib.Core.Logic.{inl, inr}
use mathlib.Core.List.{List}
use Rattle.std.specs.Prelude.{Option, None, Some}
use Rattle.reader.specs.Errors.{longest}
use Rattle.reader.specs.Numbers.{digits, spelled, read_number}
use Rattle.reader.specs.Outcome.{Outcome, answered, refused, ◌>>=◌}
use Rattle.reader.specs.Parts.{skipped}
use Rattle.reader.specs.declared.endianity.RunTimeEndian.{RunTimeEndian}
use Rattle.index.specs.declared.layout.Parts.{Parts}
use Rattle.index.specs.Layout.{hash_bytes, sizes, places_from, place, parts}
use Rattle.names.specs.declared.units.NameTypeUnit.{NameTypeUnit}
use Rattle.names.specs.Units.{unit_in, compile_unit_in, local_type_unit_in, foreign_type_unit_in, type_unit_in, default_compile_unit_in}
use Rattle.index.specs.Words.{word_bytes, nth_word}
use Rattle.attributes.specs.declared.attribute.FirstAttribute.{FirstAttribute}
use Rattle.attributes.specs.Meaning.{unit_number_in, unit_number, numbered_unit, numbered_type_unit, compile_unit_of, type_unit_of}
use Rattle.attributes.specs.Sanity.{stands}
use Rattle.attributes.proofs.AttributeLaws.{SomeOrRefused, no_number, some_number}
use Rattle.records.specs.Units.{type_shown, compile_shown, default_shown, entry_unit}
use Rattle.records.specs.Sanity.{AsTypeUnit, TypeUnitDecides, OtherNotResolved, compile_unit_first, OneUnitAsBefore, UnitsComputed, UnitsSuppose}

module _ (order : RunTimeEndian) (s : List ℕ) (p : Parts) where
  -- an attribute that the entry does not have names no unit
  no_type_unit : (a : Option FirstAttribute) → stands a ≡ false → type_shown order s p a ≡ answered None
  unfolding type_shown type_unit_of numbered_type_unit
  no_type_unit a h = rw (no_number a h)

  no_compile_unit : (a : Option FirstAttribute) → stands a ≡ false → compile_shown order s p a ≡ answered None
  unfolding compile_shown compile_unit_of numbered_unit
  no_compile_unit a h = rw (no_number a h)

  -- a type_unit attribute that it has names a unit, or is refused
  some_type_unit : (a : Option FirstAttribute) → stands a ≡ true → SomeOrRefused Some (type_unit_of order s p a)
  unfolding type_unit_of numbered_type_unit
  some_type_unit a h = by_number (some_number a h)
    where
      by_unit : (o : Outcome NameTypeUnit) → SomeOrRefused Some (o >>= λ u. answered (Some u))
      by_unit (answered u) = inl (u, refl)
      by_unit (refused n v) = inr (n, v, refl)

      by_number : SomeOrRefused Some (unit_number a) → SomeOrRefused Some (unit_number a >>= numbered_type_unit order s p)
      by_number (inl (n, e)) = rw e (by_unit (type_unit_in order s p n))
      by_number (inr (n, v, e)) = rw e (inr (n, v, refl))

pub type_unit_decides : TypeUnitDecides
unfolding entry_unit type_shown
type_unit_decides order s p f h = by_unit (some_type_unit order s p f.type_unit h)
  where
    by_unit : SomeOrRefused Some (type_unit_of order s p f.type_unit) → AsTypeUnit (type_unit_of order s p f.type_unit) (entry_unit order s p f)
    by_unit (inl (u, e)) = inl (u, e, rw e)
    by_unit (inr (n, v, e)) = inr (n, v, e, rw e)

pub other_not_resolved : OtherNotResolved
unfolding entry_unit type_shown
other_not_resolved order s p f g h same = by_unit (some_type_unit order s p f.type_unit h)
  where
    by_unit : SomeOrRefused Some (type_unit_of order s p f.type_unit) → entry_unit order s p f ≡ entry_unit order s p g
    by_unit (inl (u, e)) = rw (← same, e)
    by_unit (inr (n, v, e)) = rw (← same, e)

pub one_unit_as_before : OneUnitAsBefore
unfolding entry_unit compile_unit_first
one_unit_as_before order s p f = by_cases (stands f.type_unit) refl (stands f.compile_unit) refl
  where
    by_cases : (types : Bool) → stands f.type_unit ≡ types → (compile : Bool) → stands f.compile_unit ≡ compile → types && compile ≡ false
        → entry_unit order s p f ≡ compile_unit_first order s p f
    by_cases true t true c h = absurd (false≢true (sym h))
    by_cases true t false c h = rw (no_compile_unit order s p f.compile_unit c)
    by_cases false t compile c h = rw (no_type_unit order s p f.type_unit t)

pub units_computed : UnitsComputed
unfolding entry_unit type_shown compile_shown default_shown type_unit_of compile_unit_of unit_number unit_number_in numbered_type_unit numbered_unit type_unit_in local_type_unit_in foreign_type_unit_in compile_unit_in default_compile_unit_in unit_in nth_word parts place places_from sizes word_bytes hash_bytes longest read_number skipped spelled digits
units_computed = refl

pub units_suppose : UnitsSuppose
units_suppose = (refl, refl, refl, refl, refl, refl)
