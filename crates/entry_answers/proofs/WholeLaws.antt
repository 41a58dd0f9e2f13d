-- Laws of entries as they are handed over: an entry's facts are the same by its handle and by the one pass
-- that read it, and one test that the index fits serves the entry and its facts.
use Prim.Native.Nat.{ℕ}
use mathlib.Core.Path.{◌≡◌, refl}
use mathlib.Core.List.{List}
use Rattle.std.specs.Prelude.{Option, Some, None}
use Rattle.reader.specs.Outcome.{Outcome, answered, refused, ◌>>=◌}
use Rattle.reader.specs.Steps.{Step, keeping}
use Rattle.reader.specs.declared.endianity.RunTimeEndian.{RunTimeEndian}
use Rattle.reader.specs.declared.common.NameEntryOffset.{NameEntryOffset}
use Rattle.index.specs.declared.layout.NameIndex.{NameIndex}
use Rattle.index.specs.declared.layout.Parts.{Parts}
use Rattle.index.specs.Layout.{fitted}
use Rattle.entries.specs.declared.entry.NameEntry.{NameEntry}
use Rattle.entries.specs.declared.entry.WholeEntry.{WholeEntry}
use Rattle.entries.specs.declared.entry.EntryAt.{EntryAt}
use Rattle.entries.specs.declared.series.NameEntryIter.{NameEntryIter}
use Rattle.entries.specs.Inner.{less_whole, whole_entry, whole_step}
use Rattle.entries.proofs.EntryLaws.{name_entry_read}
use Rattle.entries.proofs.SeriesLaws.{less_of, less, entry_moved, handles_tell}
use Rattle.entries.proofs.FactLaws.{compile_unit_step, type_unit_step, die_offset_step, parent_step, type_hash_step}
use Rattle.entry_answers.specs.declared.DebugNamesEntry.{DebugNamesEntry}
use Rattle.entry_answers.specs.Entry.{facts_at, shown_entry, ended_series, refused_entry, entry_answer_in, entry_answer, entry_step_in, entry_step_answer}
use Rattle.entry_answers.specs.Inner.{facts_of}

-- what is handed over of an answer, or a refused entry, with the cursor after it
abbrev pub or_refused : {A : Type 0} → ℕ → Outcome A → (A → DebugNamesEntry) → DebugNamesEntry
or_refused next (answered a) shown = shown a
or_refused next (refused n v) shown = refused_entry next n v

-- what is handed over of an entry that was read whole, of a series' entry or its end, and of a step
module _ (order : RunTimeEndian) (s : List ℕ) (p : Parts) where
  abbrev pub whole_shown : ℕ → EntryAt → DebugNamesEntry
  whole_shown next e = shown_entry (facts_of order s p e.entry.facts) next (less_whole e)

  abbrev pub shown_or_end : ℕ → Option EntryAt → DebugNamesEntry
  shown_or_end next (Some e) = whole_shown next e
  shown_or_end next None = ended_series next

  abbrev pub step_shown : Step EntryAt NameEntryIter → DebugNamesEntry
  step_shown t = or_refused t.cursor.at t.answer (shown_or_end t.cursor.at)

module _ (order : RunTimeEndian) (s : List ℕ) (i : NameIndex) where
  -- the facts of an entry that was read whole are those by its handle
  facts-whole : (p : Parts) (offset : NameEntryOffset) (w : WholeEntry) → fitted s i ≡ answered p → whole_entry order s p offset ≡ answered w
      → facts_at order s i offset ≡ facts_of order s p w.facts
  unfolding facts_at facts_of
  facts-whole p offset w fits read = rw (
    compile_unit_step order s i offset,
    type_unit_step order s i offset,
    die_offset_step order s i offset,
    parent_step order s i offset,
    type_hash_step order s i offset,
    fits,
    read,
  )

  -- the entry with a handle, in the order of the code
  pub entry_whole : (offset : NameEntryOffset)
      → entry_answer order s i offset
      ≡ or_refused 0 (fitted s i) λ p. or_refused 0 (whole_entry order s p offset) λ w. whole_shown order s p 0 (record { offset = offset; entry = w })
  unfolding entry_answer
  entry_whole offset = rw (name_entry_read order s i offset) (by_index (fitted s i) refl)
    where
      named : WholeEntry → Outcome NameEntry
      named w = answered (record { offset = offset; abbrev_code = w.abbrev_code; tag = w.tag })

      by_entry : (p : Parts) (o : Outcome WholeEntry) → fitted s i ≡ answered p → whole_entry order s p offset ≡ o
          → entry_answer_in (facts_at order s i offset) (o >>= named) ≡ or_refused 0 o λ w. whole_shown order s p 0 (record { offset = offset; entry = w })
      by_entry p (answered w) fits read = rw (facts-whole p offset w fits read) refl
      by_entry p (refused n v) fits read = refl

      by_index : (o : Outcome Parts) → fitted s i ≡ o
          → entry_answer_in (facts_at order s i offset) (o >>= λ p. whole_entry order s p offset >>= named)
          ≡ or_refused 0 o λ p. or_refused 0 (whole_entry order s p offset) λ w. whole_shown order s p 0 (record { offset = offset; entry = w })
      by_index (answered p) fits = by_entry p (whole_entry order s p offset) fits refl
      by_index (refused n v) fits = refl

  -- and a step: where the index does not fit, the cursor stays
  pub step_whole : (c : NameEntryIter) → entry_step_answer order s i c ≡ or_refused c.at (fitted s i) λ p. step_shown order s p (whole_step order s p c)
  unfolding entry_step_answer
  step_whole c = rw (entry_moved order s i c) (by_index (fitted s i) refl)
    where
      handed_over : Step NameEntry NameEntryIter → DebugNamesEntry
      handed_over t = entry_step_in (facts_at order s i) t.cursor.at t.answer

      by_answer : (p : Parts) (o : Outcome (Option EntryAt)) (next : ℕ) → fitted s i ≡ answered p → (whole_step order s p c).answer ≡ o
          → entry_step_in (facts_at order s i) next (o >>= λ e. answered (less_of e)) ≡ or_refused next o (shown_or_end order s p next)
      by_answer p (answered (Some e)) next fits gave = rw (facts-whole p e.offset e.entry fits (handles_tell order s p c e gave)) refl
      by_answer p (answered None) next fits gave = refl
      by_answer p (refused n v) next fits gave = refl

      by_index : (o : Outcome Parts) → fitted s i ≡ o
          → handed_over (keeping c (o >>= λ p. answered (less (whole_step order s p c)))) ≡ or_refused c.at o λ p. step_shown order s p (whole_step order s p c)
      by_index (answered p) fits = by_answer p (whole_step order s p c).answer (whole_step order s p c).cursor.at fits refl
      by_index (refused n v) fits = refl
