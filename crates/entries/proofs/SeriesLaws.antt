-- Laws of series: one entry at a time; how long a series can be; what a handle leads to; and demand 3 for entry lookups.
use Prim.Native.Nat.{ℕ, ◌+◌, ◌-◌, ◌≤◌}
use mathlib.Core.Path.{◌≡◌, refl, sym, ap, ◌∙◌}
use mathlib.Core.Bool.{Bool, true, false, cond}
use mathlib.Core.List.{List}
use Rattle.std.specs.Prelude.{Option, Some, None}
use Rattle.reader.proofs.OutcomeLaws.{none-ne-some, some-injective}
use native.Mathlib.Omega.{arith}
use lib.ListN.{length}
use lib.Dec.{ltb, eqb}
use borrow.Author.Tests.{eq-eqb, le-ltb, ltb-false}
use Rattle.reader.specs.Outcome.{Outcome, answered, refused, ◌>>=◌, ◌>>◌, refuse_if}
use Rattle.reader.specs.Errors.{longest}
use Rattle.reader.specs.Parts.{part_end, left_at}
use Rattle.reader.specs.Listing.{ended, listed, or_broken, items, answers_of, Advances}
use Rattle.reader.specs.Steps.{Step, keeping}
use Rattle.reader.specs.declared.endianity.RunTimeEndian.{RunTimeEndian}
use Rattle.reader.specs.declared.common.NameTableIndex.{NameTableIndex}
use Rattle.reader.proofs.OutcomeLaws.{refused-answered, same_answer, bind_answered, then_answered, bind_same, passed}
use Rattle.reader.proofs.PartLaws.{skip_answered, skip_inside}
use Rattle.reader.proofs.ListingLaws.{listing_step, listing-items}
use Rattle.reader.proofs.StepLaws.{Next, at-end, gives_item, gives_refusal, steps_list}
use Rattle.index.specs.declared.layout.NameIndex.{NameIndex}
use Rattle.index.specs.declared.layout.Parts.{Parts}
use Rattle.index.specs.Layout.{parts, Fits, fitted}
use Rattle.index.proofs.LayoutLaws.{fitted-answered, fitted-fits}
use Rattle.index.specs.Words.{nth_word}
use Rattle.entries.specs.declared.entry.NameEntry.{NameEntry}
use Rattle.entries.specs.declared.entry.WholeEntry.{WholeEntry}
use Rattle.entries.specs.declared.series.NameEntryIter.{NameEntryIter}
use Rattle.entries.specs.Sanity.{pool_length, SeriesUnfold, SeriesShort, HandlesLead}
use Rattle.entries.specs.Inner.{HandlesTell}
use Rattle.entries.specs.Demand3.{EntryLookups}
use Rattle.entries.specs.declared.entry.EntryAt.{EntryAt}
use Rattle.entries.specs.Entries.{Entry, entry, entry_at_handle, name_entry, as_name_entry}
use Rattle.entries.specs.Inner.{as_entry_at, whole_of, less_whole, entry_read, series_read, whole_entry, whole_step}
use Rattle.entries.specs.Series.{first_entry, series_entry, entries_from, entries_of, series, cursor_at, name_entries, moved, step_in, entry_step}
use Rattle.entries.proofs.EntryLaws.{entry-offset, entries_forward, pool_end}

-- an entry of a series is one of the pool
pub series-entry : (order : RunTimeEndian) (s : List ℕ) (p : Parts) (at : ℕ) (e : Entry) → series_entry order s p at ≡ answered (Some e) → entry order s p at ≡ answered (Some e)
unfolding series_entry
series-entry order s p at e = other (eqb (left_at s at p.end) 0)
  where
    other : (t : Bool) → cond t (answered None) (entry order s p at) ≡ answered (Some e) → entry order s p at ≡ answered (Some e)
    other true same = absurd (none-ne-some _ (same_answer same))
    other false same = same

none_there : (order : RunTimeEndian) (s : List ℕ) (p : Parts) (at : ℕ) → part_end s p.end ≤ at → series_entry order s p at ≡ answered None
unfolding series_entry
none_there order s p at h = rw (eq-eqb (left_at s at p.end) 0 (omega arith))

-- entries are read forward, and end with the pool
series_advances : (order : RunTimeEndian) (s : List ℕ) (p : Parts) → Advances (series_entry order s p) (λ e. e.next) (part_end s p.end)
series_advances order s p = record {
  forward = λ at e read. entries_forward order s p at e (series-entry order s p at e read);
  none_at_stop = none_there order s p;
}

pub series_step : SeriesUnfold
unfolding entries_from
series_step order s p at = listing_step (series_entry order s p) (λ e. e.next) (part_end s p.end) (series_advances order s p) at

-- at the pool's end nothing follows
pub series-ended : (order : RunTimeEndian) (s : List ℕ) (p : Parts) → entries_from order s p p.end ≡ ended
series-ended order s p = series_step order s p p.end ∙ rw (none_there order s p p.end (omega arith))

-- what the first entry's place says: it lies in the pool or at its end
pub first-inside : (order : RunTimeEndian) (s : List ℕ) (p : Parts) (name : NameTableIndex) (at : ℕ) → first_entry order s p name ≡ answered at
    → (p.entry_pool ≤ at) × (at ≤ part_end s p.end)
unfolding first_entry
first-inside order s p name at e =
    let (offset, read, skip) = bind_answered (nth_word p.index.format order s p.entry_offset_data p.abbreviation_table name.0) _ at e in
    let (here, place) = skip_answered offset.value s p.entry_pool p.end at skip in
    (omega arith, omega arith)

-- a series is no longer than its pool
pub entries-short : (order : RunTimeEndian) (s : List ℕ) (p : Parts) (name : NameTableIndex) → items (entries_of order s p name) ≤ p.end - p.entry_pool
unfolding entries_of entries_from items
entries-short order s p name = by_start (first_entry order s p name) refl
  where
    by_start : (o : Outcome ℕ) → first_entry order s p name ≡ o → items (or_broken o (entries_from order s p)) ≤ p.end - p.entry_pool
    by_start (answered at) e =
        let (above, below) = first-inside order s p name at e in
        let turns : ℕ = part_end s p.end - at in
        omega (arith, listing-items (series_entry order s p) (λ e. e.next) turns at, above)
    by_start (refused n v) e = omega arith

-- the series of a name of an index that fits has the entries of the name
pub series-fits : (order : RunTimeEndian) (s : List ℕ) (i : NameIndex) (name : NameTableIndex) (p : Parts) → answered p ≡ fitted s i → series order s i name ≡ entries_of order s p name
unfolding series
series-fits order s i name p given = rw (sym given)

pub series-short : SeriesShort
unfolding series items
series-short order s i name = by_parts (fitted s i) refl
  where
    by_parts : (o : Outcome Parts) → fitted s i ≡ o → items (or_broken o λ p. entries_of order s p name) ≤ pool_length i
    by_parts (answered p) e =
        let (short, fits, parts_are) = fitted-answered s i p e in
        let begins = ap (λ q. q.entry_pool) parts_are in
        let stops = ap (λ q. q.end) parts_are in
        omega (arith, entries-short order s p name, begins, stops, pool_end i)
    by_parts (refused n v) e = omega arith

-- the entry at a place of a series, in the order of the code
pub series_read_step : (order : RunTimeEndian) (s : List ℕ) (p : Parts) (at : ℕ) → series_read order s p at ≡ cond (eqb (left_at s at p.end) 0) (answered None) (entry_read order s p at)
unfolding series_read series_entry entry_read
series_read_step order s p at = tested (eqb (left_at s at p.end) 0)
  where
    tested : (t : Bool) → (cond t (answered None) (entry order s p at) >>= λ e. answered (whole_of e)) ≡ cond t (answered None) (entry order s p at >>= λ e. answered (whole_of e))
    tested true = refl
    tested false = refl

-- a step in the order of the code, which keeps the first attribute of each name and no list
unfoldable pub moved_by : Parts → ℕ → Outcome (Option WholeEntry) → Step EntryAt NameEntryIter
moved_by p at (answered (Some w)) = record {
  answer = answered (Some (record { offset = record { 0 = at - p.entry_pool }; entry = w }));
  cursor = cursor_at w.next;
}
moved_by p at (answered None) = record { answer = answered None; cursor = cursor_at p.end }
moved_by p at (refused n v) = record { answer = refused n v; cursor = cursor_at p.end }

-- the offset of an entry of a series, too
pub series-offset : (order : RunTimeEndian) (s : List ℕ) (p : Parts) (at : ℕ) (e : Entry) → series_entry order s p at ≡ answered (Some e) → e.offset ≡ at - p.entry_pool
series-offset order s p at e read = entry-offset order s p at e (series-entry order s p at e read)

pub whole_moved : (order : RunTimeEndian) (s : List ℕ) (p : Parts) (c : NameEntryIter) → whole_step order s p c ≡ keeping c (do
  refuse_if (ltb c.at p.entry_pool) 14 0
  refuse_if (ltb p.end c.at) 14 0
  answered (moved_by p c.at (series_read order s p c.at)))
unfolding whole_step step_in moved moved_by series_read
whole_moved order s p c = rw (by_entry (series_entry order s p c.at) refl)
  where
    by_entry : (o : Outcome (Option Entry)) → series_entry order s p c.at ≡ o → moved as_entry_at p o ≡ moved_by p c.at (o >>= λ e. answered (whole_of e))
    by_entry (answered None) read = refl
    by_entry (answered (Some e)) read = rw (series-offset order s p c.at e read)
    by_entry (refused n v) read = refl

-- the step that shows less: what one pass tells of an entry, without its attributes and the place past it
abbrev pub less_of : Option EntryAt → Option NameEntry
less_of None = None
less_of (Some t) = Some (less_whole t)

abbrev pub less : Step EntryAt NameEntryIter → Step NameEntry NameEntryIter
less t = record { answer = t.answer >>= λ e. answered (less_of e); cursor = t.cursor }

pub entry_moved : (order : RunTimeEndian) (s : List ℕ) (i : NameIndex) (c : NameEntryIter) → entry_step order s i c ≡ keeping c (do
  p ← fitted s i
  answered (less (whole_step order s p c)))
unfolding entry_step whole_step step_in moved
entry_moved order s i c = ap (keeping c) (bind_same (fitted s i) _ _ λ p fits. ap answered (by_tests p (ltb c.at p.entry_pool) (ltb p.end c.at)))
  where
    by_entry : (p : Parts) (o : Outcome (Option Entry)) → moved as_name_entry p o ≡ less (moved as_entry_at p o)
    by_entry p (answered None) = refl
    by_entry p (answered (Some e)) = refl
    by_entry p (refused n v) = refl

    by_tests : (p : Parts) (t u : Bool)
        → keeping c (do
          refuse_if t 14 0
          refuse_if u 14 0
          answered (moved as_name_entry p (series_entry order s p c.at)))
        ≡ less (keeping c (do
          refuse_if t 14 0
          refuse_if u 14 0
          answered (moved as_entry_at p (series_entry order s p c.at))))
    by_tests p true u = refl
    by_tests p false true = refl
    by_tests p false false = by_entry p (series_entry order s p c.at)

-- a step that answers an entry passed its tests, and the entry is the one at the cursor's place
kept-answer : {A : Type 0} (c : NameEntryIter) (o : Outcome (Step A NameEntryIter)) (e : A) → (keeping c o).answer ≡ answered (Some e)
    → (t : Step A NameEntryIter) × (o ≡ answered t) × (t.answer ≡ answered (Some e))
kept-answer c (answered t) e same = (t, refl, same)
kept-answer c (refused n v) e same = absurd (refused-answered same)

moved-answer : {A : Type 0} (shown : Entry → A) (p : Parts) (o : Outcome (Option Entry)) (e : A) → (moved shown p o).answer ≡ answered (Some e)
    → (f : Entry) × (o ≡ answered (Some f)) × (shown f ≡ e)
unfolding moved
moved-answer shown p (answered None) e same = absurd (none-ne-some _ (same_answer same))
moved-answer shown p (answered (Some f)) e same = (f, refl, some-injective _ _ (same_answer same))
moved-answer shown p (refused n v) e same = absurd (refused-answered same)

-- the handle of an entry of the pool leads to that entry
pool_lead : (order : RunTimeEndian) (s : List ℕ) (p : Parts) (at : ℕ) (f : Entry) → p.entry_pool ≤ at → entry order s p at ≡ answered (Some f)
    → entry_at_handle order s p (record { 0 = f.offset }) ≡ answered f
unfolding entry_at_handle
pool_lead order s p at f begins there =
    let offset : f.offset ≡ at - p.entry_pool = entry-offset order s p at f there in
    let (ahead, inside) = entries_forward order s p at f there in
    let place : p.entry_pool + f.offset ≡ at = omega arith in
    rw (skip_inside f.offset s p.entry_pool p.end (omega arith), place, there) refl

-- so does that of an entry that a step shows
shown_lead : {A : Type 0} (shown : Entry → A) (order : RunTimeEndian) (s : List ℕ) (p : Parts) (c : NameEntryIter) (e : A)
    → (step_in order s shown p c).answer ≡ answered (Some e)
    → (f : Entry) × (entry_at_handle order s p (record { 0 = f.offset }) ≡ answered f) × (shown f ≡ e)
unfolding step_in
shown_lead shown order s p c e gave =
    let (t, went, same) = kept-answer c _ e gave in
    let (u, above, rest₁) = then_answered (refuse_if (ltb c.at p.entry_pool) 14 0) _ t went in
    let (v, below, rest₂) = then_answered (refuse_if (ltb p.end c.at) 14 0) _ t rest₁ in
    let (f, read, this) = moved-answer shown p (series_entry order s p c.at) e (ap (λ t. t.answer) (same_answer rest₂) ∙ same) in
    let begins = ltb-false _ _ (passed _ 14 0 u above) in
    (f, pool_lead order s p c.at f begins (series-entry order s p c.at f read), this)

-- and the call answers it
lead_named : (order : RunTimeEndian) (s : List ℕ) (i : NameIndex) (p : Parts) (f : Entry) (e : NameEntry) → fitted s i ≡ answered p
    → entry_at_handle order s p (record { 0 = f.offset }) ≡ answered f → as_name_entry f ≡ e → name_entry order s i e.offset ≡ answered e
unfolding name_entry
lead_named order s i p f e fits there this = rw (sym this, fits, there) refl

pub handles_lead : HandlesLead
unfolding entry_step
handles_lead order s i c e gave =
    let (t, went, same) = kept-answer c _ e gave in
    let (p, fits, rest) = bind_answered (fitted s i) _ t went in
    let (f, there, this) = shown_lead as_name_entry order s p c e (ap (λ t. t.answer) (same_answer rest) ∙ same) in
    lead_named order s i p f e fits there this

pub handles_tell : HandlesTell
unfolding whole_step whole_entry
handles_tell order s p c t gave =
    let (f, there, this) = shown_lead as_entry_at order s p c t gave in
    rw (sym this, there) refl

-- the step of a cursor that fits
pub step_fits : (order : RunTimeEndian) (s : List ℕ) (i : NameIndex) (at : ℕ) → length s ≤ longest → Fits s i → (parts i).entry_pool ≤ at → at ≤ (parts i).end
    → entry_step order s i (cursor_at at) ≡ moved as_name_entry (parts i) (series_entry order s (parts i) at)
unfolding entry_step step_in
step_fits order s i at short fits above below = rw (fitted-fits s i short fits, le-ltb at (parts i).entry_pool above, le-ltb (parts i).end at below)

-- Demand 3: a cursor of a lookup stands for the entries from its place on
module _ (order : RunTimeEndian) (s : List ℕ) (i : NameIndex) (short : length s ≤ longest) (fits : Fits s i) where
  abbrev pub Inside : NameEntryIter → Type 0
  Inside c = ((parts i).entry_pool ≤ c.at) × (c.at ≤ (parts i).end)

  abbrev pub left : NameEntryIter → List (Outcome (Option NameEntry))
  left c = answers_of as_name_entry (entries_from order s (parts i) c.at)

  -- what is left where the reading at the cursor's place is known
  left_read : (c : NameEntryIter) (o : Outcome (Option Entry)) → series_entry order s (parts i) c.at ≡ o
      → left c ≡ answers_of as_name_entry (listed o λ e. entries_from order s (parts i) e.next)
  left_read c o read = rw (series_step order s (parts i) c.at, read)

  pub each : (c : NameEntryIter) → Inside c → Next (entry_step order s i) Inside left c
  unfolding moved answers_of
  each c (above, below) = by_cases (series_entry order s (parts i) c.at) refl (step_fits order s i c.at short fits above below)
    where
      by_cases : (o : Outcome (Option Entry)) → series_entry order s (parts i) c.at ≡ o → entry_step order s i c ≡ moved as_name_entry (parts i) o → Next (entry_step order s i) Inside left c
      by_cases (answered None) read step = at-end (left_read c _ read) (ap (λ t. t.answer) step)
      by_cases (answered (Some e)) read step =
          let (ahead, inside) = entries_forward order s (parts i) c.at e (series-entry order s (parts i) c.at e read) in
          gives_item (as_name_entry e) (rw step (left_read c _ read)) (ap (λ t. t.answer) step) (rw step (omega arith, omega arith))
      by_cases (refused n v) read step =
          let pool : (parts i).entry_pool ≤ (parts i).end = omega arith in
          gives_refusal n v (rw (step, series-ended order s (parts i)) (left_read c _ read)) (ap (λ t. t.answer) step) (rw step (pool, omega arith))

pub entry-lookups : EntryLookups
unfolding name_entries series entries_of
entry-lookups order s i name c steps given linked =
    let (p, fitting, rest) = bind_answered (fitted s i) _ c (sym given) in
    let (at, start, same) = bind_answered (first_entry order s p name) _ c rest in
    let (short, fits, parts_are) = fitted-answered s i p fitting in
    let (above, below) = first-inside order s p name at start in
    let place : c.at ≡ at = ap (λ c. c.at) (sym (same_answer same)) in
    let begins = ap (λ q. q.entry_pool) parts_are in
    let stops = ap (λ q. q.end) parts_are in
    rw (fitting, start, sym place, parts_are)
    (steps_list (entry_step order s i) (Inside order s i short fits) (left order s i short fits) (each order s i short fits) steps c (omega (arith, begins, place, above), omega (arith, stops, place, below)) linked)
