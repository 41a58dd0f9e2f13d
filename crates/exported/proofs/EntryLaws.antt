-- Demand 3 of the exported entry lookup: a caller's cursor stands for the entries that the code's own cursor stands for, and no refusal looks like
-- an answer.
use Prim.Native.Nat.{ℕ, ◌≤◌}
use mathlib.Core.Path.{◌≡◌, refl, sym, ap, ◌∙◌}
use mathlib.Core.Bool.{false}
use mathlib.Core.List.{List, map}
use native.Mathlib.Omega.{arith}
use lib.ListN.{length}
use lib.Dec.{eqb}
use Rattle.std.specs.Prelude.{Option, Some, None}
use Rattle.reader.specs.Outcome.{Outcome, answered, refused}
use Rattle.reader.specs.Errors.{longest}
use Rattle.reader.specs.Steps.{ListsInOrder}
use Rattle.reader.specs.declared.endianity.RunTimeEndian.{RunTimeEndian}
use Rattle.reader.proofs.OutcomeLaws.{refused-answered, same_answer, bind_answered}
use Rattle.reader.proofs.StepLaws.{NextBy, Next, at-end, gives_item, gives_refusal}
use Rattle.index.specs.declared.layout.NameIndex.{NameIndex}
use Rattle.index.specs.declared.layout.Parts.{Parts}
use Rattle.index.specs.Layout.{parts, Fits, fitted}
use Rattle.index.proofs.LayoutLaws.{fitted-answered}
use Rattle.entries.specs.declared.entry.NameEntry.{NameEntry}
use Rattle.entries.specs.declared.series.NameEntryIter.{NameEntryIter}
use Rattle.entries.specs.Entries.{Entry, as_name_entry}
use Rattle.entries.specs.Series.{first_entry, series_entry, entries_of, series, cursor_at, name_entries, moved, entry_step}
use Rattle.entries.proofs.SeriesLaws.{first-inside, step_fits, Inside, left, each}
use Rattle.handles.specs.Handles.{order_of, index_from}
use Rattle.answers.specs.declared.DebugNamesAnswer.{DebugNamesAnswer}
use Rattle.answers.specs.Answers.{handed, entries_answer}
use Rattle.entry_answers.specs.declared.DebugNamesEntry.{DebugNamesEntry}
use Rattle.entry_answers.specs.Entry.{entry_step_answer, refused_entry}
use Rattle.exported.specs.Demand3.{LinkedCalls, told_by_entry, ExportedEntries}
use Rattle.exported.proofs.CallLaws.{calls_list}
use Rattle.exported.proofs.NumberedLaws.{Numbered, series_numbered}

-- a lookup that gave a place had a cursor there
place_given : (first : ℕ) (o : Outcome NameEntryIter) → ◌≡◌ {A = DebugNamesAnswer} (record { status = 0; kind = 1; value = first }) (handed entries_answer o) → o ≡ answered (cursor_at first)
place_given first (answered c) e = ap (λ at. answered (cursor_at at)) (sym (ap (λ a. a.value) e))
place_given first (refused n v) e = let kind : ◌≡◌ {A = ℕ} 1 0 = ap (λ a. a.kind) e in absurd (omega arith)

-- a step that is refused is refused with a number other than 0
refusal_numbered : (p : Parts) (o : Outcome (Option Entry)) (n v : ℕ) → Numbered o → (moved as_name_entry p o).answer ≡ refused n v → eqb n 0 ≡ false
unfolding moved
refusal_numbered p (answered None) n v here e = absurd (refused-answered (sym e))
refusal_numbered p (answered (Some a)) n v here e = absurd (refused-answered (sym e))
refusal_numbered p (refused m w) n v here e = let same : m ≡ n = cc in rw (sym same) here

module _ (order : RunTimeEndian) (s : List ℕ) (i : NameIndex) (short : length s ≤ longest) (fits : Fits s i) where
  abbrev next_entry : ℕ → DebugNamesEntry
  next_entry at = entry_step_answer order s i (cursor_at at)

  abbrev Within : ℕ → Type 0
  Within at = Inside order s i short fits (cursor_at at)

  abbrev entries_left : ℕ → List (Outcome (Option NameEntry))
  entries_left at = left order s i short fits (cursor_at at)

  each_entry : (at : ℕ) → Within at → NextBy told_by_entry (λ t. t.next) next_entry Within entries_left at
  unfolding entry_step_answer refused_entry
  each_entry at (above, below) = by_next (each order s i short fits (cursor_at at) (above, below))
    where
      by_next : Next (entry_step order s i) (Inside order s i short fits) (left order s i short fits) (cursor_at at) → NextBy told_by_entry (λ t. t.next) next_entry Within entries_left at
      by_next (at-end none_left answer) = at-end none_left (rw answer refl)
      by_next (gives_item a rest answer ready) = gives_item a (rw answer rest) (rw answer refl) (rw answer ready)
      by_next (gives_refusal n v rest answer ready) =
          let other = refusal_numbered (parts i) (series_entry order s (parts i) at) n v (series_numbered order s (parts i) at)
          (ap (λ t. t.answer) (sym (step_fits order s i at short fits above below)) ∙ answer) in
          gives_refusal n v (rw answer rest) (rw (answer, other) refl) (rw answer ready)

  entry_calls : (steps : List DebugNamesEntry) (at : ℕ) → Within at → LinkedCalls next_entry (λ t. t.next) at steps → ListsInOrder (map told_by_entry steps) (entries_left at)
  entry_calls steps at has linked = calls_list told_by_entry (λ t. t.next) next_entry Within entries_left each_entry steps at has linked

pub exported-entries : ExportedEntries
unfolding name_entries series entries_of
exported-entries number s h name first steps given linked =
    let order = order_of number in
    let i = index_from h in
    let (p, fitting, rest) = bind_answered (fitted s i) _ (cursor_at first) (place_given first (name_entries order s i name) given) in
    let (at, start, same) = bind_answered (first_entry order s p name) _ (cursor_at first) rest in
    let (short, fits, parts_are) = fitted-answered s i p fitting in
    let (above, below) = first-inside order s p name at start in
    let place : first ≡ at = ap (λ c. c.at) (sym (same_answer same)) in
    let begins = ap (λ q. q.entry_pool) parts_are in
    let stops = ap (λ q. q.end) parts_are in
    rw (fitting, start, sym place, parts_are)
    (entry_calls order s i short fits steps first (omega (arith, begins, place, above), omega (arith, stops, place, below)) linked)
