-- Laws of entries: the same in the order of the code, which keeps the first attribute of each name and no list; an entry takes a byte;
-- its handle is below the pool's length.
use Prim.Native.Nat.{ℕ, ◌+◌, ◌-◌}
use mathlib.Core.Path.{◌≡◌, refl, sym, ap, ◌∙◌}
use mathlib.Core.Bool.{Bool, true, false, cond}
use mathlib.Core.List.{List}
use Rattle.std.specs.Prelude.{Option, Some, None, option_map}
use Rattle.reader.proofs.OutcomeLaws.{none-ne-some, some-injective}
use native.Mathlib.Omega.{arith}
use lib.Dec.{eqb}
use Rattle.reader.specs.Outcome.{Outcome, answered, refused, ◌>>=◌}
use Rattle.reader.specs.Parts.{skipped, Forward}
use Rattle.reader.specs.declared.reader.Read.{Read}
use Rattle.leb128.specs.Leb128.{leb128, unsigned_limit}
use Rattle.reader.specs.declared.endianity.RunTimeEndian.{RunTimeEndian}
use Rattle.reader.specs.declared.common.NameEntryOffset.{NameEntryOffset}
use Rattle.reader.proofs.OutcomeLaws.{refused-answered, same_answer, bind_answered, bind_same}
use Rattle.reader.proofs.PartLaws.{skip_answered}
use Rattle.leb128.proofs.Leb128Laws.{leb128-forward}
use Rattle.abbreviations.specs.Abbreviations.{Declaration, abbreviation_of, table, find, found}
use Rattle.abbreviations.proofs.AbbreviationLaws.{declaration_read, found_in_table}
use Rattle.index.specs.declared.layout.NameIndex.{NameIndex}
use Rattle.index.specs.declared.layout.Parts.{Parts}
use Rattle.index.specs.Layout.{parts, fitted}
use Rattle.index.proofs.LayoutLaws.{fitted-answered}
use Rattle.attributes.specs.declared.facts.Facts.{Facts}
use Rattle.attributes.specs.Attributes.{Values, values, facts}
use Rattle.attributes.specs.Inner.{facts_read}
use Rattle.attributes.proofs.AttributeLaws.{facts_declared, entry_values_onward}
use Rattle.entries.specs.declared.entry.WholeEntry.{WholeEntry}
use Rattle.entries.specs.Sanity.{EntriesForward, HandlesBelow}
use Rattle.entries.specs.Entries.{Entry, or_refuse, entry, entry_at_handle, name_entry, as_name_entry}
use Rattle.entries.specs.Inner.{whole, whole_of, entry_read, whole_entry}
use Rattle.abbreviations.specs.declared.NameAbbreviation.{NameAbbreviation}

-- what the search for the code's declaration leads to, in the order of the code
unfoldable pub with_found : RunTimeEndian → List ℕ → Parts → Read ℕ → Option NameAbbreviation → Outcome (Option WholeEntry)
with_found order s p code None = refused 8 code.value
with_found order s p code (Some d) = do
  f ← facts_read order s d.attributes p.entry_pool code.next p.end
  answered (Some (record { abbrev_code = code.value; tag = d.tag; facts = f.value; next = f.next }))

-- the same in the definition
abbrev with_declared : RunTimeEndian → List ℕ → Parts → ℕ → Read ℕ → Option Declaration → Outcome (Option Entry)
with_declared order s p at code declared = do
  d ← or_refuse declared 8 code.value
  v ← values order s d.attributes code.next p.end
  answered (Some (record { offset = at - p.entry_pool; code = code.value; tag = d.tag; attributes = v.list; next = v.next }))

-- the first attribute of each name, of values that were read
abbrev kept : Values → Read Facts
kept v = record { value = facts v.list; next = v.next }

-- a declaration that was found tells the same of both: its pairs can all be read
found_tells : (order : RunTimeEndian) (s : List ℕ) (p : Parts) (at : ℕ) (code : Read ℕ) (declared : Option Declaration)
    → find code.value (table s p.abbreviation_table p.entry_pool) ≡ answered declared
    → (with_declared order s p at code declared >>= λ e. answered (whole_of e)) ≡ with_found order s p code (option_map abbreviation_of declared)
unfolding with_found
found_tells order s p at code None e = refl
found_tells order s p at code (Some d) e =
    let (same, (place, read)) = found_in_table code.value s p.abbreviation_table p.entry_pool d e in
    let (ahead, pairs) = declaration_read s place p.entry_pool d read in
    rw (facts_declared order s d.place p.entry_pool _ code.next p.end pairs) (by_values (values order s d.attributes code.next p.end))
  where
    by_values : (o : Outcome Values)
        → ((o >>= λ v. answered (Some (record { offset = at - p.entry_pool; code = code.value; tag = d.tag; attributes = v.list; next = v.next }))) >>= λ e. answered (whole_of e))
        ≡ ((o >>= λ v. answered (kept v)) >>= λ f. answered (Some (record { abbrev_code = code.value; tag = d.tag; facts = f.value; next = f.next })))
    by_values (answered v) = refl
    by_values (refused n v) = refl

-- an entry in the order of the code
pub read_step : (order : RunTimeEndian) (s : List ℕ) (p : Parts) (at : ℕ) → entry_read order s p at ≡ (do
  code ← leb128 unsigned_limit s at p.end
  cond (eqb code.value 0) (answered None) (do
    a ← found s p.abbreviation_table p.entry_pool code.value
    with_found order s p code a))
unfolding entry_read entry found
read_step order s p at = by_code (leb128 unsigned_limit s at p.end)
  where
    by_search : (code : Read ℕ) (o : Outcome (Option Declaration)) → find code.value (table s p.abbreviation_table p.entry_pool) ≡ o
        → ((o >>= with_declared order s p at code) >>= λ e. answered (whole_of e)) ≡ ((o >>= λ d. answered (option_map abbreviation_of d)) >>= with_found order s p code)
    by_search code (answered declared) e = found_tells order s p at code declared e
    by_search code (refused n v) e = refl

    by_zero : (t : Bool) (code : Read ℕ)
        → (cond t (answered None) (find code.value (table s p.abbreviation_table p.entry_pool) >>= with_declared order s p at code) >>= λ e. answered (whole_of e))
        ≡ cond t (answered None) ((find code.value (table s p.abbreviation_table p.entry_pool) >>= λ d. answered (option_map abbreviation_of d)) >>= with_found order s p code)
    by_zero true code = refl
    by_zero false code = by_search code _ refl

    by_code : (o : Outcome (Read ℕ))
        → ((o >>= λ code. cond (eqb code.value 0) (answered None) (find code.value (table s p.abbreviation_table p.entry_pool) >>= with_declared order s p at code)) >>= λ e. answered (whole_of e))
        ≡ (o >>= λ code. cond (eqb code.value 0) (answered None) ((find code.value (table s p.abbreviation_table p.entry_pool) >>= λ d. answered (option_map abbreviation_of d)) >>= with_found order s p code))
    by_code (answered code) = by_zero (eqb code.value 0) code
    by_code (refused n v) = refl

-- what an answered entry says: its handle is its offset in the pool; it takes a byte, and stays inside
entry-answered : (order : RunTimeEndian) (s : List ℕ) (p : Parts) (at : ℕ) (e : Entry) → entry order s p at ≡ answered (Some e)
    → (e.offset ≡ at - p.entry_pool) × Forward s at p.end e.next
unfolding entry
entry-answered order s p at e answer =
    let (code, read, rest) = bind_answered (leb128 unsigned_limit s at p.end) _ (Some e) answer in
    let (declared, search, values-follow) = bind_answered (find code.value (table s p.abbreviation_table p.entry_pool)) _ (Some e) (other (eqb code.value 0) _ rest) in
    let (d, there, values-read) = bind_answered (or_refuse declared 8 code.value) _ (Some e) values-follow in
    let (v, read-values, same) = bind_answered (values order s d.attributes code.next p.end) _ (Some e) values-read in
    let this = some-injective _ _ (same_answer same) in
    let offset : e.offset ≡ at - p.entry_pool = ap (λ e. e.offset) (sym this) in
    let past : e.next ≡ v.next = ap (λ e. e.next) (sym this) in
    let (ahead, inside) = leb128-forward unsigned_limit s at p.end code read in
    let (further, within) = entry_values_onward order s d.attributes code.next p.end v inside read-values in
    (offset, (omega arith, omega arith))
  where
    -- the side of a choice that is not none
    other : (t : Bool) (m : Outcome (Option Entry)) → cond t (answered None) m ≡ answered (Some e) → m ≡ answered (Some e)
    other true m same = absurd (none-ne-some _ (same_answer same))
    other false m same = same

pub entry-offset : (order : RunTimeEndian) (s : List ℕ) (p : Parts) (at : ℕ) (e : Entry) → entry order s p at ≡ answered (Some e) → e.offset ≡ at - p.entry_pool
entry-offset order s p at e answer = let (offset, forward) = entry-answered order s p at e answer in offset

pub entries_forward : EntriesForward
entries_forward order s p at e answer = let (offset, forward) = entry-answered order s p at e answer in forward

-- the entry of a handle, in the order of the code
pub whole_read : (order : RunTimeEndian) (s : List ℕ) (p : Parts) (offset : NameEntryOffset) → whole_entry order s p offset ≡ (do
  at ← skipped offset.0 s p.entry_pool p.end
  e ← entry_read order s p at
  or_refuse e 10 offset.0)
unfolding whole_entry entry_at_handle entry_read
whole_read order s p offset = by_place (skipped offset.0 s p.entry_pool p.end)
  where
    by_entry : (o : Outcome (Option Entry))
        → ((o >>= λ e. or_refuse e 10 offset.0) >>= λ e. answered (whole e)) ≡ ((o >>= λ e. answered (whole_of e)) >>= λ e. or_refuse e 10 offset.0)
    by_entry (answered None) = refl
    by_entry (answered (Some e)) = refl
    by_entry (refused n v) = refl

    by_place : (o : Outcome ℕ)
        → ((o >>= λ at. entry order s p at >>= λ e. or_refuse e 10 offset.0) >>= λ e. answered (whole e))
        ≡ (o >>= λ at. (entry order s p at >>= λ e. answered (whole_of e)) >>= λ e. or_refuse e 10 offset.0)
    by_place (answered at) = by_entry (entry order s p at)
    by_place (refused n v) = refl

-- the pool ends with the index
pub pool_end : (i : NameIndex) → (parts i).end ≡ i.end
unfolding parts
pool_end i = refl

-- an entry that a handle leads to has that handle, and stands inside the pool
handle_answered : (order : RunTimeEndian) (s : List ℕ) (p : Parts) (offset : NameEntryOffset) (e : Entry) → entry_at_handle order s p offset ≡ answered e
    → (e.offset ≡ offset.0) × Forward s (p.entry_pool + offset.0) p.end e.next
unfolding entry_at_handle
handle_answered order s p offset e answer =
    let (at, skip, found-there) = bind_answered (skipped offset.0 s p.entry_pool p.end) _ e answer in
    let (o, read, there) = bind_answered (entry order s p at) _ e found-there in
    let (here, place) = skip_answered offset.0 s p.entry_pool p.end at skip in
    let (same, (ahead, inside)) = entry-answered order s p at e (read ∙ ap (λ x. answered x) (is_there o there)) in
    (omega (arith, same, place), (omega (arith, place, ahead), inside))
  where
    is_there : (o : Option Entry) → or_refuse o 10 offset.0 ≡ answered e → o ≡ Some e
    is_there None there = absurd (refused-answered there)
    is_there (Some f) there = ap (λ x. Some x) (same_answer there)

pub handles_below : HandlesBelow
unfolding name_entry
handles_below order s i offset e answer =
    let (p, fits, rest) = bind_answered (fitted s i) _ e answer in
    let (f, there, shown) = bind_answered (entry_at_handle order s p offset) _ e rest in
    let (same, (ahead, inside)) = handle_answered order s p offset f there in
    let (short, (pool, ends), parts_are) = fitted-answered s i p fits in
    let begins = ap (λ q. q.entry_pool) parts_are in
    let stops = ap (λ q. q.end) parts_are in
    (sym (ap (λ e. e.offset) (same_answer shown)) ∙ ap (λ n. record { 0 = n }) same, omega (arith, begins, stops, pool_end i, ahead, inside))

-- `name_entry` in the order of the code: the handle is the one that was given
pub name_entry_read : (order : RunTimeEndian) (s : List ℕ) (i : NameIndex) (offset : NameEntryOffset) → name_entry order s i offset ≡ (do
  p ← fitted s i
  w ← whole_entry order s p offset
  answered (record { offset = offset; abbrev_code = w.abbrev_code; tag = w.tag }))
unfolding name_entry whole_entry
name_entry_read order s i offset = bind_same (fitted s i) _ _ λ p fits. by_entry p (entry_at_handle order s p offset) refl
  where
    by_entry : (p : Parts) (o : Outcome Entry) → entry_at_handle order s p offset ≡ o
        → (o >>= λ e. answered (as_name_entry e)) ≡ ((o >>= λ e. answered (whole e)) >>= λ w. answered (record { offset = offset; abbrev_code = w.abbrev_code; tag = w.tag }))
    by_entry p (answered e) there =
        let (same, forward) = handle_answered order s p offset e there in
        rw same
    by_entry p (refused n v) there = refl

-- a fact of an entry is one of the first attributes that were kept
pub fact_step : {B : Type 0} (order : RunTimeEndian) (s : List ℕ) (p : Parts) (offset : NameEntryOffset) (says : Facts → Outcome B)
    → (entry_at_handle order s p offset >>= λ e. says (facts e.attributes)) ≡ (whole_entry order s p offset >>= λ w. says w.facts)
unfolding whole_entry
fact_step {B = B} order s p offset says = by_entry (entry_at_handle order s p offset)
  where
    by_entry : (o : Outcome Entry) → (o >>= λ e. says (facts e.attributes)) ≡ ((o >>= λ e. answered (whole e)) >>= λ w. says w.facts)
    by_entry (answered e) = refl
    by_entry (refused n v) = refl
