-- Laws of matching: when two lists of bytes are the same, and the names that match, one at a time.
use Prim.Native.Nat.{ℕ, suc, ◌+◌, ◌<◌}
use mathlib.Core.Path.{◌≡◌, refl, sym, ap, ap₂, ◌∙◌}
use mathlib.Core.Bool.{Bool, true, false, cond, ◌&&◌}
use Rattle.std.specs.Cmp.Lexicographic.{pointwise}
use Rattle.std.specs.Prelude.{nat_eq}
use mathlib.Core.List.{List, [], ◌∷◌}
use native.Mathlib.Omega.{arith}
use lib.ListN.{length, take, drop, length-take, length-drop}
use lib.Dec.{eqb}
use borrow.Author.Tests.{eqb-true, eq-eqb}
use Rattle.reader.specs.Outcome.{Outcome, answered, refused}
use Rattle.reader.specs.Listing.{Listing, ended, broken, item, or_broken}
use Rattle.reader.specs.declared.endianity.RunTimeEndian.{RunTimeEndian}
use Rattle.reader.specs.declared.common.NameTableIndex.{NameTableIndex}
use Rattle.reader.proofs.ListLaws.{false_true}
use Rattle.reader.proofs.OutcomeLaws.{bind_answered}
use Rattle.index.specs.declared.layout.Parts.{Parts}
use Rattle.strings.specs.declared.Str.{Str}
use Rattle.strings.proofs.StringLaws.{str_answered}
use Rattle.names.specs.Names.{name_string_in, name_string_offset_in}
use Rattle.index_query.specs.Sanity.{SameExactly}
use Rattle.index_query.specs.Matching.{same_bytes, text_is, name_matches, matching}
use Rattle.index_query.specs.Inner.{candidates_from, matches_from}

-- lists of other lengths are not the same
pub other_length : (a b : List ℕ) → (length a ≡ length b → ⊥) → same_bytes a b ≡ false
unfolding same_bytes
other_length [] [] h = absurd (h refl)
other_length [] (b ∷ bs) h = refl
other_length (a ∷ rest) [] h = refl
other_length (a ∷ rest) (b ∷ bs) h = tested (eqb a b) (other_length rest bs (λ e. h (ap suc e)))
  where
    tested : (t : Bool) → same_bytes rest bs ≡ false → cond t (same_bytes rest bs) false ≡ false
    tested true e = e
    tested false e = refl

-- and the test holds exactly of two lists that are the same
test-same : (a b : List ℕ) → same_bytes a b ≡ true → a ≡ b
unfolding same_bytes
test-same [] [] e = refl
test-same [] (b ∷ bs) e = absurd (false_true e)
test-same (a ∷ rest) [] e = absurd (false_true e)
test-same (a ∷ rest) (b ∷ bs) e = tested (eqb a b) refl e (test-same rest bs)
  where
    tested : (t : Bool) → eqb a b ≡ t → cond t (same_bytes rest bs) false ≡ true → (same_bytes rest bs ≡ true → rest ≡ bs) → a ∷ rest ≡ b ∷ bs
    tested true h e more = ap₂ (λ x l. x ∷ l) (eqb-true a b h) (more e)
    tested false h e more = absurd (false_true e)

same_test : (a : List ℕ) → same_bytes a a ≡ true
unfolding same_bytes
same_test [] = refl
same_test (a ∷ rest) = rw (eq-eqb a a refl) (same_test rest)

pub same_exactly : SameExactly
same_exactly a b = (test-same a b, λ e. rw e (same_test b))

-- the library's test of two slices is that test, too
pub same_pointwise : (a b : List ℕ) → pointwise nat_eq a b ≡ same_bytes a b
unfolding same_bytes
same_pointwise [] [] = refl
same_pointwise [] (b ∷ bs) = refl
same_pointwise (a ∷ rest) [] = refl
same_pointwise (a ∷ rest) (b ∷ bs) = tested (eqb a b) (same_pointwise rest bs)
  where
    tested : (t : Bool) → pointwise nat_eq rest bs ≡ same_bytes rest bs → (t && pointwise nat_eq rest bs) ≡ cond t (same_bytes rest bs) false
    tested true e = e
    tested false e = refl

-- a name's string lies inside .debug_str
pub string_inside : (order : RunTimeEndian) (s strs : List ℕ) (p : Parts) (name : NameTableIndex) (t : Str) → name_string_in order s strs p name ≡ answered t → t.start + t.len < length strs
unfolding name_string_in
string_inside order s strs p name t e =
    let (offset, read, found) = bind_answered (name_string_offset_in order s p name) _ t e in
    let (begins, long, inside) = str_answered strs offset.0 t found in
    inside

-- the string of a name is another where it has another length
pub text_other : (order : RunTimeEndian) (s strs : List ℕ) (p : Parts) (name : NameTableIndex) (t : Str) (text : List ℕ) → name_string_in order s strs p name ≡ answered t → (t.len ≡ length text → ⊥) → text_is strs text t ≡ false
unfolding text_is
text_other order s strs p name t text e other =
    let inside = string_inside order s strs p name t e in
    let long : length (take t.len (drop t.start strs)) ≡ t.len = omega (arith, length-take t.len (drop t.start strs), length-drop t.start strs) in
    other_length (take t.len (drop t.start strs)) text (λ h. other (sym long ∙ h))

module _ (order : RunTimeEndian) (s strs : List ℕ) (hash : ℕ) (text : List ℕ) (p : Parts) where
  -- the names that match from a candidate on: it, if its string is the name, and those after it
  abbrev pub matched_after : ℕ → ℕ → Outcome Bool → Listing ℕ
  matched_after name after o = or_broken o λ holds. cond holds (item name (matches_from order s strs hash text p after)) (matches_from order s strs hash text p after)

  module _ (from after name : ℕ) (next : name ∷ candidates_from order s hash p after ≡ candidates_from order s hash p from) where
    matches_name : matches_from order s strs hash text p from ≡ matched_after name after (name_matches order s strs text p name)
    unfolding matches_from matching
    matches_name = rw (sym next)

    -- so where its string is the name, where it is another, and where it cannot be read
    pub name_found : answered true ≡ name_matches order s strs text p name → matches_from order s strs hash text p from ≡ item name (matches_from order s strs hash text p after)
    name_found holds = rw (matches_name, sym holds)

    pub name_passed : answered false ≡ name_matches order s strs text p name → matches_from order s strs hash text p from ≡ matches_from order s strs hash text p after
    name_passed holds = rw (matches_name, sym holds)

    pub name_refused : (n v : ℕ) → refused n v ≡ name_matches order s strs text p name → matches_from order s strs hash text p from ≡ broken n v
    name_refused n v holds = rw (matches_name, sym holds)

  pub matches_none : (from : ℕ) → [] ≡ candidates_from order s hash p from → matches_from order s strs hash text p from ≡ ended
  unfolding matches_from matching
  matches_none from e = rw (sym e)

-- after a candidate there is one fewer
pub fewer_left : (order : RunTimeEndian) (s : List ℕ) (hash : ℕ) (p : Parts) (from after name : ℕ) → name ∷ candidates_from order s hash p after ≡ candidates_from order s hash p from
    → length (candidates_from order s hash p after) < length (candidates_from order s hash p from)
fewer_left order s hash p from after name e =
    let long : suc (length (candidates_from order s hash p after)) ≡ length (candidates_from order s hash p from) = ap (λ l. length l) e in
    omega arith
