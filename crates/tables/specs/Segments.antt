-- How the code goes through the names, from 0 on, to find those that are missed: in segments, longest rows of
-- names that follow one another in one bucket. What it answers is defined in Check (SPECIFICATION 11.1); a
-- reader of the other files need not know this.
use Rattle.std.specs.Prelude.{ℕ, zero, suc, ◌+◌, ◌-◌, Bool, false, cond, List, [], ◌∷◌, leb, eqb}
use Rattle.index.specs.declared.layout.NameIndex.{NameIndex}
use Rattle.hashes.specs.Table.{bucket_of}
use Rattle.tables.specs.declared.Segment.{Segment}
use Rattle.tables.specs.declared.Walk.{Walk}
use Rattle.tables.specs.declared.Count.{Count}

-- before the first name: no name is in bucket B, where B is not 0
unfoldable pub no_segment : NameIndex → Segment
no_segment i = record { bucket = i.bucket_count; first = 0 }

-- the segment of a name that stores this hash: that of the name before it where the bucket is the same, else
-- a new one, which this name begins
unfoldable pub followed : NameIndex → Segment → ℕ → ℕ → Segment
followed i before name hash = cond (eqb (bucket_of i hash) before.bucket) before (record { bucket = bucket_of i hash; first = name })

-- the walk up to a name: the segment of the name right before it, as far as that name; `hash_of` is the hash
-- that is stored for a name
unfoldable pub segment_before : NameIndex → (ℕ → ℕ) → ℕ → Segment
segment_before i hash_of zero = no_segment i
segment_before i hash_of (suc name) = followed i (segment_before i hash_of name) name (hash_of name)

unfoldable pub walked_to : NameIndex → (ℕ → ℕ) → ℕ → Walk
walked_to i hash_of name = record { segment = segment_before i hash_of name; name = name }

-- the first of these names, or this number where there is none
unfoldable pub first_of : ℕ → List ℕ → ℕ
first_of number [] = number
first_of number (name ∷ more) = name

-- Whether the run with this start reaches a name of its bucket, in a segment that begins with the name
-- `first`. A start is one more than the number of the name where the run begins, and 0 where there is no run.
-- A run that begins before the segment has ended before it, since the name before the segment is of another
-- bucket.
unfoldable pub reached_by : ℕ → ℕ → ℕ → Bool
reached_by start first name = cond (leb start first) false (leb (start - 1) name)

-- one more missed name after those before it, which have smaller numbers: it is the smallest if it is the
-- first; `least` says nothing while `missed` is 0
unfoldable pub one_more : Count → ℕ → Count
one_more before name = record { missed = before.missed + 1; least = cond (eqb before.missed 0) name before.least }

-- the count after a name of the segment, from the count before it; `start` is the start of the segment's bucket
unfoldable pub counted_at : Count → Segment → ℕ → ℕ → Count
counted_at before segment start name = cond (reached_by start segment.first name) before (one_more before name)
