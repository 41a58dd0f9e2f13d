-- Laws of counting: the entries of a series, one at a time.
use Prim.Native.Nat.{ℕ, ◌≤◌, ◌<◌}
use mathlib.Core.Path.{◌≡◌, refl, sym, ap}
use mathlib.Core.Bool.{Bool, true, false, cond}
use mathlib.Core.List.{List}
use native.Mathlib.Omega.{arith}
use lib.Dec.{eqb}
use Rattle.std.specs.Prelude.{Option, Some, None}
use Rattle.reader.specs.Outcome.{Outcome, answered, refused, ◌>>=◌}
use Rattle.reader.specs.Parts.{part_end, left_at}
use Rattle.reader.specs.Listing.{listed, counted}
use Rattle.reader.specs.declared.endianity.RunTimeEndian.{RunTimeEndian}
use Rattle.reader.specs.declared.common.NameTableIndex.{NameTableIndex}
use Rattle.reader.proofs.OutcomeLaws.{none-ne-some, some-injective, refused-answered, same_answer}
use Rattle.reader.proofs.ListingLaws.{plus}
use Rattle.index.specs.declared.layout.Parts.{Parts}
use Rattle.entries.specs.declared.entry.WholeEntry.{WholeEntry}
use Rattle.entries.specs.Entries.{Entry, entry}
use Rattle.entries.specs.Inner.{series_read, whole_of}
use Rattle.entries.specs.Series.{first_entry, series_entry, entries_from, entries_of}
use Rattle.entries.proofs.EntryLaws.{entries_forward}
use Rattle.entries.proofs.SeriesLaws.{series_step}

-- what is counted from an entry on that was read
unfoldable pub count_after : (ℕ → Outcome ℕ) → Outcome (Option WholeEntry) → Outcome ℕ
count_after more (answered None) = answered 0
count_after more (answered (Some w)) = plus 1 (more w.next)
count_after more (refused n v) = refused n v

-- the entries from a place on, in the order of the code
pub count_step : (order : RunTimeEndian) (s : List ℕ) (p : Parts) (at : ℕ)
    → counted (entries_from order s p at) ≡ count_after (λ at. counted (entries_from order s p at)) (series_read order s p at)
unfolding counted series_read count_after plus
count_step order s p at = rw (series_step order s p at) (by_read (series_entry order s p at))
  where
    by_read : (o : Outcome (Option Entry))
        → counted (listed o λ e. entries_from order s p e.next) ≡ count_after (λ at. counted (entries_from order s p at)) (o >>= λ e. answered (whole_of e))
    by_read (answered None) = refl
    by_read (answered (Some e)) = refl
    by_read (refused n v) = refl

-- an entry that was read takes at least a byte
pub read_forward : (order : RunTimeEndian) (s : List ℕ) (p : Parts) (at : ℕ) (w : WholeEntry) → answered (Some w) ≡ series_read order s p at → (at < w.next) × (w.next ≤ part_end s p.end)
unfolding series_read series_entry
read_forward order s p at w e = of_entry (eqb (left_at s at p.end) 0) (entry order s p at) refl (sym e)
  where
    of_entry : (t : Bool) (o : Outcome (Option Entry)) → entry order s p at ≡ o → (cond t (answered None) o >>= λ e. answered (whole_of e)) ≡ answered (Some w)
        → (at < w.next) × (w.next ≤ part_end s p.end)
    of_entry true o read h = absurd (none-ne-some _ (same_answer h))
    of_entry false (answered None) read h = absurd (none-ne-some _ (same_answer h))
    of_entry false (answered (Some e)) read h =
        let same : e.next ≡ w.next = ap (λ w. w.next) (some-injective _ _ (same_answer h)) in
        let (ahead, inside) = entries_forward order s p at e read in
        (omega arith, omega arith)
    of_entry false (refused n v) read h = absurd (refused-answered h)

-- and from the name's first entry on
pub count_started : (order : RunTimeEndian) (s : List ℕ) (p : Parts) (name : NameTableIndex) (first : ℕ) → answered first ≡ first_entry order s p name
    → counted (entries_of order s p name) ≡ counted (entries_from order s p first)
unfolding entries_of
count_started order s p name first begun = rw (sym begun)

-- what is counted where the series has no first place, and where an entry of it is refused
pub count_unstarted : (order : RunTimeEndian) (s : List ℕ) (p : Parts) (name : NameTableIndex) (n v : ℕ) → refused n v ≡ first_entry order s p name
    → counted (entries_of order s p name) ≡ refused n v
unfolding entries_of counted
count_unstarted order s p name n v refusal = rw (sym refusal)

pub count_broken : (order : RunTimeEndian) (s : List ℕ) (p : Parts) (name : NameTableIndex) (first count at n v : ℕ)
    → answered first ≡ first_entry order s p name
    → counted (entries_from order s p first) ≡ plus count (counted (entries_from order s p at))
    → refused n v ≡ series_read order s p at → counted (entries_of order s p name) ≡ refused n v
unfolding count_after plus
count_broken order s p name first count at n v begun before refusal =
    rw (count_started order s p name first begun, before, count_step, ← refusal)
