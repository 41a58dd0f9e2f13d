-- Laws of names: the bytes of a name's string are those at its string offset; the steps of a cursor give the names in order.
use Prim.Native.Nat.{ℕ, zero, suc, ◌+◌, ◌-◌, ◌≤◌, ◌<◌}
use mathlib.Core.Path.{◌≡◌, refl, sym, ap, ap₂, ◌∙◌}
use mathlib.Core.Bool.{Bool, true, false}
use mathlib.Core.List.{List, [], ◌∷◌, ◌++◌, map}
use Rattle.std.specs.Prelude.{Option}
use native.Mathlib.Omega.{arith}
use lib.ListN.{length, take, replicate}
use lib.Dec.{ltb, leb}
use borrow.Author.Tests.{leb-true, leb-false}
use Rattle.reader.specs.Outcome.{Outcome, answered, refused, ◌>>=◌, ◌>>◌, refuse_if}
use Rattle.reader.specs.Errors.{longest}
use Rattle.strings.specs.Strings.{get_str, text_bytes, str_bytes}
use Rattle.reader.specs.declared.endianity.RunTimeEndian.{RunTimeEndian}
use Rattle.reader.specs.declared.common.DebugStrOffset.{DebugStrOffset}
use Rattle.reader.specs.declared.common.NameTableIndex.{NameTableIndex}
use Rattle.index.specs.declared.layout.NameIndex.{NameIndex}
use Rattle.index.specs.Layout.{Fits, fitted}
use Rattle.index.proofs.LayoutLaws.{fitted-fits}
use Rattle.reader.specs.Steps.{Linked, no_steps, step_then, Taken, answers, step_of}
use Rattle.reader.specs.Lists.{numbers_from}
use Rattle.names.specs.Sanity.{named, the_end, NamesInOrder}
use Rattle.index.specs.declared.layout.Parts.{Parts}
use Rattle.names.specs.Names.{name_string_in, name_string_offset_in, name_cursor, first_name, step_from, name_step, name_string_offset, name_string, name_string_bytes}
use Rattle.reader.specs.Answers.{outcome}
use Rattle.names.specs.declared.table.NameTableIter.{NameTableIter}

-- the bytes of the string at an offset; none where the offset is refused
unfoldable pub offset_bytes : List ℕ → Outcome DebugStrOffset → List ℕ
offset_bytes strs (answered o) = str_bytes strs o.0
offset_bytes strs (refused n v) = []

-- in a section that is too long every string is refused, and so is every string offset
no_string : (strs : List ℕ) (offset : ℕ) → ltb longest (length strs) ≡ true → str_bytes strs offset ≡ []
unfolding str_bytes get_str text_bytes
no_string strs offset e = rw e

no_offset : (order : RunTimeEndian) (s : List ℕ) (i : NameIndex) (name : NameTableIndex) → ltb longest (length s) ≡ true → name_string_offset order s i name ≡ refused 13 0
unfolding name_string_offset fitted
no_offset order s i name e = rw e

pub string_bytes : (order : RunTimeEndian) (s strs : List ℕ) (i : NameIndex) (name : NameTableIndex)
    → name_string_bytes order s strs i name ≡ offset_bytes strs (name_string_offset order s i name)
unfolding name_string_bytes name_string name_string_in name_string_offset text_bytes offset_bytes str_bytes
string_bytes order s strs i name = tested (ltb longest (length s)) (ltb longest (length strs)) refl refl
  where
    there : (o : Outcome DebugStrOffset) → text_bytes strs (o >>= λ offset. get_str strs offset.0) ≡ offset_bytes strs o
    there (answered o) = refl
    there (refused n v) = refl

    by_parts : (o : Outcome Parts) → text_bytes strs (o >>= λ p. name_string_in order s strs p name) ≡ offset_bytes strs (o >>= λ p. name_string_offset_in order s p name)
    by_parts (answered p) = there (name_string_offset_in order s p name)
    by_parts (refused n v) = refl

    none_there : (o : Outcome DebugStrOffset) → ltb longest (length strs) ≡ true → [] ≡ offset_bytes strs o
    none_there (answered o) e = sym (no_string strs o.0 e)
    none_there (refused n v) e = refl

    tested : (t u : Bool) → ltb longest (length s) ≡ t → ltb longest (length strs) ≡ u
        → text_bytes strs (refuse_if t 13 0 >> (refuse_if u 13 0 >> (fitted s i >>= λ p. name_string_in order s strs p name))) ≡ offset_bytes strs (name_string_offset order s i name)
    tested true u e f = rw (no_offset order s i name e)
    tested false true e f = none_there (name_string_offset order s i name) f
    tested false false e f = by_parts (fitted s i)

-- the step of a cursor before name k, where the index fits
step_fits : (s : List ℕ) (i : NameIndex) (k : ℕ) → length s ≤ longest → Fits s i → name_step s i (name_cursor k) ≡ step_from i k
unfolding name_step
step_fits s i k short fits = rw (fitted-fits s i short fits)

step_end : (i : NameIndex) (k : ℕ) → leb i.name_count k ≡ true → step_from i k ≡ record { answer = the_end; cursor = name_cursor k }
unfolding step_from
step_end i k e = rw e

step_name : (i : NameIndex) (k : ℕ) → leb i.name_count k ≡ false → step_from i k ≡ record { answer = named k; cursor = name_cursor (k + 1) }
unfolding step_from
step_name i k e = rw e

-- what follows a name: the names after it, and the ends
abbrev after : NameIndex → ℕ → ℕ → List (Outcome (Option NameTableIndex))
after i k j = map named (numbers_from k (i.name_count - k)) ++ replicate j the_end

-- before the last name, that name comes first; past it, an end does
after-name : (i : NameIndex) (k j : ℕ) → k < i.name_count → after i k j ≡ named k ∷ after i (k + 1) j
unfolding numbers_from
after-name i k j h =
    let more : i.name_count - k ≡ suc (i.name_count - (k + 1)) = omega arith in
    rw more refl

after-end : (i : NameIndex) (k j : ℕ) → i.name_count ≤ k → after i k (suc j) ≡ the_end ∷ after i k j
unfolding numbers_from
after-end i k j h =
    let left : i.name_count - k ≡ 0 = omega arith in
    rw left refl

-- the steps from a cursor before name k on, with ends enough
steps_from : (s : List ℕ) (i : NameIndex) (rs : List (Taken NameTableIndex NameTableIter)) (k j : ℕ) → length s ≤ longest → Fits s i → length rs ≤ j
    → Linked (name_step s i) (name_cursor k) rs → answers rs ≡ take (length rs) (after i k j)
steps_from s i [] k j short fits enough no_steps = refl
steps_from s i (r ∷ rs) k zero short fits enough linked = absurd (omega arith)
steps_from s i (r ∷ rs) k (suc j) short fits enough (step_then is linked) =
    by_cases (leb i.name_count k) refl (is ∙ step_fits s i k short fits)
    (λ n m room same. steps_from s i rs n m short fits room (rw (sym same) linked))
  where
    by_cases : (t : Bool) → leb i.name_count k ≡ t → step_of r.answer r.cursor ≡ step_from i k
        → ((n m : ℕ) → length rs ≤ m → r.cursor ≡ name_cursor n → answers rs ≡ take (length rs) (after i n m))
        → outcome r.answer ∷ answers rs ≡ take (suc (length rs)) (after i k (suc j))
    by_cases true e step rest =
        let ended : step_from i k ≡ record { answer = the_end; cursor = name_cursor k } = step_end i k e in
        rw (after-end i k j (leb-true _ _ e))
        (ap₂ (λ o os. o ∷ os) (ap (λ t. t.answer) (step ∙ ended)) (rest k j (omega arith) (ap (λ t. t.cursor) (step ∙ ended))))
    by_cases false e step rest =
        let gave : step_from i k ≡ record { answer = named k; cursor = name_cursor (k + 1) } = step_name i k e in
        rw (after-name i k (suc j) (leb-false _ _ e))
        (ap₂ (λ o os. o ∷ os) (ap (λ t. t.answer) (step ∙ gave)) (rest (k + 1) (suc j) (omega arith) (ap (λ t. t.cursor) (step ∙ gave))))

pub names_in_order : NamesInOrder
unfolding first_name
names_in_order s i rs short fits linked =
    let all : i.name_count - 0 ≡ i.name_count = omega arith in
    rw all at (steps_from s i rs 0 (length rs) short fits (omega arith) linked)
