-- What an incomplete answer of the check names: the smallest of the missed names, which a lookup of its hash does not list.
use Prim.Native.Nat.{ℕ, ◌-◌, ◌≤◌, ◌<◌}
use mathlib.Core.Path.{◌≡◌, refl, sym, ap, ◌∙◌}
use mathlib.Core.Bool.{Bool, true, false}
use mathlib.Core.Logic.{inl, inr, ⊎_elim}
use mathlib.Core.List.{List, [], ◌∷◌}
use native.Mathlib.Omega.{arith}
use lib.ListN.{length}
use lib.Dec.{ltb}
use borrow.Author.Tests.{ltb-true, ltb-false, eq-eqb}
use Rattle.reader.specs.Lists.{numbers_from, memberb}
use Rattle.reader.specs.declared.endianity.RunTimeEndian.{RunTimeEndian}
use Rattle.reader.proofs.ListLaws.{false_true, never_true, filter-first, member_holds, no_members}
use Rattle.index.specs.declared.layout.NameIndex.{NameIndex}
use Rattle.index.specs.Layout.{parts}
use Rattle.hashes.specs.Table.{stored_hash, names_from, names_of_hash}
use Rattle.tables.specs.declared.Incomplete.{Incomplete}
use Rattle.tables.specs.declared.TableCheck.{TableCheck}
use Rattle.tables.specs.Check.{is_missed, missed_names, verdict, table_check}
use Rattle.tables.specs.Sanity.{MissedTold, LostLeast, LostNotListed}
use Rattle.tables.proofs.CheckLaws.{missed_exactly, IsTaken, check-answered}
use Rattle.tables.proofs.CompleteLaws.{check-complete, no_table_buckets, steps_name, stores_own, listed-run, lookup_ends}
use Rattle.reader.specs.Answers.{outcome}
use Rattle.std.specs.Prelude.{Ok, Err}

module _ (order : RunTimeEndian) (s : List ℕ) (i : NameIndex) where
  -- the first of the missed names is among them, and none of them has a smaller number
  first_least : (name : ℕ) (more : List ℕ) → missed_names order s i ≡ name ∷ more
      → (memberb name (missed_names order s i) ≡ true) × ((other : ℕ) → memberb other (missed_names order s i) ≡ true → name ≤ other)
  unfolding missed_names names_from memberb
  first_least name more e =
      let (above, below, missed, none) = filter-first (is_missed order s i) 0 (i.name_count - 0) name more e in
      (rw (e, eq-eqb name name refl), λ other h. not_below other none (member_holds (is_missed order s i) other (numbers_from 0 (i.name_count - 0)) h) (ltb other name) refl)
    where
      not_below : (other : ℕ) → ((m : ℕ) → 0 ≤ m → m < name → is_missed order s i m ≡ false) → is_missed order s i other ≡ true → (t : Bool) → ltb other name ≡ t → name ≤ other
      not_below other none h true less = absurd (false_true (sym (none other (omega arith) (ltb-true other name less)) ∙ h))
      not_below other none h false most = ltb-false other name most

  -- what the verdict names: the first of these names
  verdict-names : (lost : Incomplete) (names : List ℕ) → verdict (stored_hash order s (parts i)) names ≡ TableCheck.Incomplete lost
      → (more : List ℕ) × (names ≡ lost.name.0 ∷ more) × (lost.missed ≡ length names) × (lost.hash ≡ stored_hash order s (parts i) lost.name.0)
  unfolding verdict
  verdict-names lost [] said = let z : ◌≡◌ {A = ℕ} 0 1 = cc in absurd (omega arith)
  verdict-names lost (name ∷ more) said =
      let named : Incomplete = record { missed = length (name ∷ more); name = record { 0 = name }; hash = stored_hash order s (parts i) name } in
      let same : named ≡ lost = cc in
      rw (sym same) (more, refl, refl, refl)

  -- what the check has found where it answers incomplete
  incomplete-found : (lost : Incomplete) → outcome (Ok (TableCheck.Incomplete lost)) ≡ table_check order s i
      → IsTaken order s i × (verdict (stored_hash order s (parts i)) (missed_names order s i) ≡ TableCheck.Incomplete lost)
  incomplete-found lost e =
      ⊎_elim
      (λ (no-buckets, same). let z : ◌≡◌ {A = ℕ} 0 1 = cc in absurd (omega arith))
      (λ found. found)
      (check-answered order s i (TableCheck.Incomplete lost) (sym e))

pub missed_told : MissedTold
missed_told order s i name (Ok TableCheck.NoTable) buckets missed e = absurd (omega (arith, no_table_buckets order s i (sym e)))
missed_told order s i name (Ok TableCheck.Complete) buckets missed e =
    let (taken, nothing) = check-complete order s i (sym e) in
    absurd (no_members name (missed_names order s i) (ap length nothing) missed)
missed_told order s i name (Ok (TableCheck.Incomplete lost)) buckets missed e = inl (lost, refl)
missed_told order s i name (Err why) buckets missed e = inr (why, refl)

pub lost_least : LostLeast
lost_least order s i lost e =
    let (taken, said) = incomplete-found order s i lost e in
    let (more, first, count, stored) = verdict-names order s i lost (missed_names order s i) said in
    let (among, least) = first_least order s i lost.name.0 more first in
    (count, among, least, stored)

pub lost_not_listed : LostNotListed
lost_not_listed order s i lost e =
    let (taken, said) = incomplete-found order s i lost e in
    let (count, among, least, stored) = lost_least order s i lost e in
    let (below, out) = (missed_exactly order s i lost.name.0).0 among in
    let (c, given, reaches) = lookup_ends order s i taken lost.hash in (
      rw stored (stores_own order s i lost.name.0 below),
      (
        c,
        given,
        reaches,
        λ steps linked ended. (
          names_of_hash order s i lost.hash,
          steps_name order s i lost.hash c steps given linked ended,
          never_true _ (λ h. false_true (sym out ∙ rw stored at (listed-run order s i lost.name.0 lost.hash h))),
        ),
      ),
    )
