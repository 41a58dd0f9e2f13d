-- Laws of segments: what is known of the segment before a name, and which names of a segment its bucket's run reaches.
use Prim.Native.Nat.{ℕ, zero, suc, ◌+◌, ◌-◌, ◌≤◌, ◌<◌}
use mathlib.Core.Path.{◌≡◌, refl, sym, ◌∙◌}
use mathlib.Core.Bool.{Bool, true, false, cond}
use mathlib.Core.List.{[]}
use native.Mathlib.Omega.{arith}
use lib.Dec.{ltb, leb, eqb}
use borrow.Author.Tests.{ltb-true, ltb-false, leb-true, leb-false, eqb-true, eqb-false}
use Rattle.index.specs.declared.layout.NameIndex.{NameIndex}
use Rattle.reader.specs.Lists.{memberb}
use Rattle.hashes.specs.Table.{bucket_of, run_from, from_start}
use Rattle.reader.proofs.ListLaws.{never_true, past-other}
use Rattle.hashes.proofs.TableLaws.{in_run, of_run}
use Rattle.tables.specs.declared.Segment.{Segment}
use Rattle.tables.specs.Segments.{no_segment, followed, segment_before, reached_by}

module _ (i : NameIndex) (hash_of : ℕ → ℕ) where
  -- the segment before a name: all names from its first up to this one belong to its bucket, the one before its first does not, and it has the name
  -- before this one
  pub record Before (name : ℕ) (g : Segment) : Type 0 where
    pub begins : g.first ≤ name
    pub together : (m : ℕ) → g.first ≤ m → m < name → bucket_of i (hash_of m) ≡ g.bucket
    pub apart : 0 < g.first → bucket_of i (hash_of (g.first - 1)) ≡ g.bucket → ⊥
    pub last : 0 < name → g.first < name

  -- before the first name there is none
  pub before-first : Before 0 (no_segment i)
  unfolding no_segment
  before-first = record {
    begins = omega arith;
    together = λ m h k. absurd (omega arith);
    apart = λ h k. absurd (omega arith);
    last = λ h. absurd (omega arith);
  }

  pub before-next : (name : ℕ) (g : Segment) → Before name g → Before (name + 1) (followed i g name (hash_of name))
  unfolding followed
  before-next name g b = tested (eqb (bucket_of i (hash_of name)) g.bucket) refl
    where
      tested : (t : Bool) → eqb (bucket_of i (hash_of name)) g.bucket ≡ t → Before (name + 1) (cond t g (record { bucket = bucket_of i (hash_of name); first = name }))
      tested true e =
          let begins = b.begins in
          record {
            begins = omega arith;
            together = λ m h k. of_name m (eqb m name) refl h k;
            apart = b.apart;
            last = λ h. omega arith;
          }
        where
          of_name : (m : ℕ) (t : Bool) → eqb m name ≡ t → g.first ≤ m → m < name + 1 → bucket_of i (hash_of m) ≡ g.bucket
          of_name m true same h k = rw (eqb-true m name same) (eqb-true _ _ e)
          of_name m false other h k = b.together m h (below (eqb-false m name other))
            where
              below : (m ≡ name → ⊥) → m < name
              below differs = by_order (ltb m name) refl
                where
                  by_order : (t : Bool) → ltb m name ≡ t → m < name
                  by_order true f = ltb-true m name f
                  by_order false f = let least = ltb-false m name f in absurd (differs (omega arith))
      tested false e = record {
        begins = omega arith;
        together = λ m h k. let here : m ≡ name = omega arith in rw here;
        apart = λ h k. let begins = b.last h in eqb-false _ _ e (sym k ∙ b.together (name - 1) (omega arith) (omega arith));
        last = λ h. omega arith;
      }

  -- so this is known of the segment before any name, and it follows the one before
  pub before-all : (name : ℕ) → Before name (segment_before i hash_of name)
  unfolding segment_before
  before-all zero = before-first
  before-all (suc name) = let next : name + 1 ≡ suc name = omega arith in rw next at (before-next name (segment_before i hash_of name) (before-all name))

  pub before_suc : (name : ℕ) → segment_before i hash_of (name + 1) ≡ followed i (segment_before i hash_of name) name (hash_of name)
  unfolding segment_before
  before_suc name = let next : name + 1 ≡ suc name = omega arith in rw next

  -- the segment of a name is of the name's bucket
  pub followed-bucket : (name : ℕ) (g : Segment) → (followed i g name (hash_of name)).bucket ≡ bucket_of i (hash_of name)
  unfolding followed
  followed-bucket name g = tested (eqb (bucket_of i (hash_of name)) g.bucket) refl
    where
      tested : (t : Bool) → eqb (bucket_of i (hash_of name)) g.bucket ≡ t → (cond t g (record { bucket = bucket_of i (hash_of name); first = name })).bucket ≡ bucket_of i (hash_of name)
      tested true e = sym (eqb-true _ _ e)
      tested false e = refl

  -- so a name is in the run of its bucket exactly if that run begins in the name's segment, at the name or before it
  pub reached_member : (name : ℕ) (g : Segment) (start : ℕ) → Before (name + 1) g → name < i.name_count
      → reached_by start g.first name ≡ memberb name (from_start start (run_from i hash_of g.bucket))
  unfolding reached_by from_start memberb
  reached_member name g start b below = tested (leb start g.first) (leb (start - 1) name) (eqb start 0) refl refl refl
    where
      tested : (t u v : Bool) → leb start g.first ≡ t → leb (start - 1) name ≡ u → eqb start 0 ≡ v
          → cond t false u ≡ memberb name (cond v [] (run_from i hash_of g.bucket (start - 1)))
      tested true u true e f k = refl
      tested true u false e f k =
          let before = leb-true start g.first e in
          let begins = b.last (omega arith) in
          sym (never_true (memberb name (run_from i hash_of g.bucket (start - 1)))
          (λ h. let (above, below, all) = of_run i hash_of g.bucket name (start - 1) h in b.apart (some-before before (eqb-false start 0 k)) (all (g.first - 1) (omega arith) (omega arith))))
        where
          some-before : start ≤ g.first → (start ≡ 0 → ⊥) → 0 < g.first
          some-before h other = let least = past-other start 0 (omega arith) other in omega arith
      tested false u true e f k = absurd (omega (arith, leb-false start g.first e, eqb-true start 0 k))
      tested false false false e f k =
          let past = leb-false (start - 1) name f in
          sym (never_true (memberb name (run_from i hash_of g.bucket (start - 1))) (λ h. let (above, below, all) = of_run i hash_of g.bucket name (start - 1) h in omega arith))
      tested false true false e f k =
          let after = leb-false start g.first e in
          let upto = leb-true (start - 1) name f in
          sym (in_run i hash_of g.bucket name (name - (start - 1)) (start - 1) (omega arith) below (λ m h l. b.together m (omega arith) (omega arith)))
