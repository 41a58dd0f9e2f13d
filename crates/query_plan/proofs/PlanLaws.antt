-- Laws of what there is to write.
use Prim.Native.Nat.{ℕ, zero, suc, ◌+◌, ◌-◌, ◌^◌, ◌<◌}
use mathlib.Core.Path.{◌≡◌, refl, sym, ap, ap₂, ◌∙◌}
use mathlib.Core.List.{List, [], ◌∷◌}
use native.Mathlib.Omega.{arith}
use lib.ListN.{length, take}
use lib.Seq.{take_all}
use lib.Dec.{ltb}
use mathlib.Core.Bool.{Bool, true, false, cond}
use borrow.Author.Tests.{ltb-false}
use Rattle.reader.specs.Errors.{longest}
use Rattle.reader.specs.declared.endianity.RunTimeEndian.{RunTimeEndian}
use Rattle.reader.specs.Outcome.{Outcome, answered, refused}
use Rattle.reader.specs.Listing.{Listing, ended, broken, item, items_of, counted, items}
use Rattle.reader.proofs.ListingLaws.{plus, plus-end, plus-plus, counted-item, counted-items, items-length}
use Rattle.records.specs.declared.record.Record.{Record}
use Rattle.section_records.specs.Records.{section_records}
use Rattle.section_records.specs.Inner.{query_left, first_record}
use Rattle.query_plan.specs.Plans.{Queried, unless_refused, queried}
use Rattle.query_plan.specs.Inner.{planned}
use Rattle.section_records.proofs.WalkLaws.{section_left}
use Rattle.section_records.proofs.BoundLaws.{total_small}

pub take_none : {A : Type 0} (n : ℕ) → take {A = A} n [] ≡ []
take_none zero = refl
take_none (suc n) = refl

-- of a list that is not left out, the first, and the rest of those that are taken
pub take_first : {A : Type 0} (n : ℕ) (a : A) (l : List A) → (n ≡ 0 → ⊥) → take n (a ∷ l) ≡ a ∷ take (n - 1) l
take_first zero a l h = absurd (h refl)
take_first (suc n) a l h =
    let less : suc n - 1 ≡ n = omega arith in
    rw less

-- what is planned for a list: nothing for an empty one or one that is broken off; else the first record, and as many as were counted
pub queried_ended : queried ended ≡ record { answer = answered 0; records = [] }
unfolding queried counted items_of
queried_ended = refl

pub queried_broken : (n v : ℕ) → queried (broken n v) ≡ record { answer = refused n v; records = [] }
unfolding queried counted
queried_broken n v = refl

abbrev pub queried_first : Record → Listing Record → Outcome ℕ → Queried
queried_first r l (answered n) = record { answer = answered (n + 1); records = take (n + 1) (r ∷ items_of l) }
queried_first r l (refused n v) = record { answer = refused n v; records = [] }

pub queried_item : (r : Record) (l : Listing Record) → queried (item r l) ≡ queried_first r l (counted l)
unfolding queried items_of plus
queried_item r l = rw (counted-item r l) (by_count (counted l) refl)
  where
    by_count : (o : Outcome ℕ) → counted l ≡ o → record { answer = plus 1 o; records = unless_refused (plus 1 o) (r ∷ items_of l) } ≡ queried_first r l o
    by_count (answered n) e =
        let long : length (items_of l) ≡ n = items-length l ∙ sym (counted-items l n e) in
        ap₂ (λ m list. record { answer = answered m; records = list }) (omega arith) (sym (take_all (n + 1) (r ∷ items_of l) (omega arith)))
    by_count (refused n v) e = refl

-- where all are counted, they are the items
pub counted_items : (l : Listing Record) (n : ℕ) → answered n ≡ counted l → n ≡ items l
counted_items l n e = counted-items l n (sym e)

-- the records that were counted and those that are left: one more is counted, the last was, or the rest cannot be counted
pub one_more : (k : ℕ) (r : Record) (l : Listing Record) → plus k (counted (item r l)) ≡ plus (k + 1) (counted l)
one_more k r l = rw (counted-item r l, plus-plus)

pub all_counted : (k : ℕ) → plus k (counted {A = Record} ended) ≡ answered k
unfolding counted
all_counted k = plus-end k

pub not_counted : (k n v : ℕ) → plus k (counted {A = Record} (broken n v)) ≡ refused n v
unfolding counted plus
not_counted k n v = refl

pub one_item : (r : Record) (l : Listing Record) → items (item r l) ≡ items l + 1
unfolding items
one_item r l = omega arith

module _ (order : RunTimeEndian) (s strs : List ℕ) (hash : ℕ) (text : List ℕ) where
  -- a section that is too long is refused; else the plan is of what the first cursor has left,
  pub planned_by : planned order s strs hash text
      ≡ cond (ltb longest (length s)) (record { answer = refused 13 0; records = [] }) (cond (ltb longest (length strs)) (record { answer = refused 13 0; records = [] }) (queried (query_left order s strs hash text first_record)))
  unfolding planned section_records
  planned_by = tested (ltb longest (length s)) (ltb longest (length strs)) refl refl
    where
      tested : (t u : Bool) → ltb longest (length s) ≡ t → ltb longest (length strs) ≡ u → planned order s strs hash text
          ≡ cond t (record { answer = refused 13 0; records = [] }) (cond u (record { answer = refused 13 0; records = [] }) (queried (query_left order s strs hash text first_record)))
      tested true u e f = rw e (queried_broken 13 0)
      tested false true e f = rw (e, f) (queried_broken 13 0)
      tested false false e f = ap queried (section_left order s strs hash text (ltb-false longest (length s) e) (ltb-false longest (length strs) f))

  -- which is fewer than 2^64 records
  pub left_small : ltb longest (length s) ≡ false → ltb longest (length strs) ≡ false → items (query_left order s strs hash text first_record) < 2 ^ 64
  left_small e f =
      let short = ltb-false longest (length s) e in
      rw (sym (section_left order s strs hash text short (ltb-false longest (length strs) f))) (total_small order s strs hash text short)
