-- SPECIFICATION 11.1 on case A with another second start: what the table check names, and what is proved of
-- it; and on two tables of their own: one where the name that is named is not that of the lowest bucket, and
-- one where a lookup finds another name that stores its hash.
use Rattle.std.specs.Prelude.{ℕ, ◌+◌, ◌*◌, ◌≤◌, ◌<◌, ◌≡◌, true, List, [], ◌∷◌, ◌++◌, replicate, Ok}
use Rattle.reader.specs.Answers.{outcome}
use Rattle.reader.specs.Lists.{memberb}
use Rattle.reader.specs.declared.endianity.RunTimeEndian.{RunTimeEndian}
use Rattle.reader.specs.declared.common.Format.{Format}
use Rattle.index.specs.declared.layout.NameIndex.{NameIndex}
use Rattle.hashes.specs.Table.{names_of_hash, all_storing}
use Rattle.tables.specs.declared.Incomplete.{Incomplete}
use Rattle.tables.specs.declared.TableCheck.{TableCheck}
use Rattle.tables.specs.Check.{missed_names, table_check}
use Rattle.tables.specs.Sanity.{ListsWithout}
use Rattle.p_cases.specs.CaseA.{index_a, second_start}

-- The names 0, 1 and 2 store the hashes 4, 7 and 9, so that the last two belong to the second bucket. Where
-- its start is 3, its run begins at name 2; where it is 4, which is N + 1, the run is empty.
abbrev pub lost_one : Incomplete
lost_one = record { missed = 1; name = record { 0 = 1 }; hash = 7 }

abbrev pub lost_two : Incomplete
lost_two = record { missed = 2; name = record { 0 = 1 }; hash = 7 }

-- what `LostLeast` and `LostNotListed` suppose, for the second starts 3 and 4, and what `MissedTold` supposes
-- besides, for 4
abbrev pub LostSupposes : Type 0
LostSupposes =
    (outcome (Ok (TableCheck.Incomplete lost_one)) ≡ table_check RunTimeEndian.Little (second_start 3) index_a)
    × (outcome (Ok (TableCheck.Incomplete lost_two)) ≡ table_check RunTimeEndian.Little (second_start 4) index_a)
    × (0 < index_a.bucket_count)
    × (memberb 1 (missed_names RunTimeEndian.Little (second_start 4) index_a) ≡ true)

-- part of what `LostLeast` and `LostNotListed` then say for 4: no missed name is smaller than 1, and the
-- lookup of 7 lists names without name 1
abbrev pub LostInA : Type 0
LostInA =
    ((name : ℕ) → memberb name (missed_names RunTimeEndian.Little (second_start 4) index_a) ≡ true → 1 ≤ name)
    × ListsWithout RunTimeEndian.Little (second_start 4) index_a 7 1

-- the lists themselves: the missed names; and for hash 7 all names that store it, and those that a lookup lists
abbrev pub LostComputed : Type 0
LostComputed =
    (missed_names RunTimeEndian.Little (second_start 3) index_a ≡ 1 ∷ [])
    × (missed_names RunTimeEndian.Little (second_start 4) index_a ≡ 1 ∷ 2 ∷ [])
    × (all_storing RunTimeEndian.Little (second_start 4) index_a 7 ≡ 1 ∷ [])
    × (names_of_hash RunTimeEndian.Little (second_start 4) index_a 7 ≡ [])

-- A section with a hash table of two buckets, and nothing before it: these numbers, each of four bytes, are
-- its starts and the hashes of so many names. Words of strings and of entry offsets, all 0, follow.
unfoldable pub words : List ℕ → List ℕ
words [] = []
words (n ∷ more) = n ∷ 0 ∷ 0 ∷ 0 ∷ words more

unfoldable pub table_of : ℕ → List ℕ → List ℕ
table_of names numbers = words numbers ++ replicate (8 * names) 0

unfoldable pub table_index : ℕ → NameIndex
table_index names = record {
  format = Format.Dwarf32;
  compile_unit_count = 0;
  local_type_unit_count = 0;
  foreign_type_unit_count = 0;
  bucket_count = 2;
  name_count = names;
  abbrev_table_size = 0;
  begin = 0;
  end = 8 + 12 * names;
}

-- Starts 0 and 0, hashes 5 and 2: name 0 belongs to the second bucket, and name 1 to the first. The name is
-- the one with the smallest number, and not that of the lowest bucket; its hash is the stored one, and not
-- its bucket.
abbrev pub LostByNumber : Type 0
LostByNumber =
    outcome (Ok (TableCheck.Incomplete (record { missed = 2; name = record { 0 = 0 }; hash = 5 })))
    ≡ table_check RunTimeEndian.Little (table_of 2 (0 ∷ 0 ∷ 5 ∷ 2 ∷ [])) (table_index 2)

-- Starts 2 and 1, hashes 7, 4 and 7: the run of the second bucket ends before name 1, so that name 2 is lost;
-- the lookup of 7 lists name 0 alone.
abbrev pub interrupted : List ℕ
interrupted = table_of 3 (2 ∷ 1 ∷ 7 ∷ 4 ∷ 7 ∷ [])

abbrev pub LostBesideFound : Type 0
LostBesideFound =
    (outcome (Ok (TableCheck.Incomplete (record { missed = 1; name = record { 0 = 2 }; hash = 7 }))) ≡ table_check RunTimeEndian.Little interrupted (table_index 3))
    × (all_storing RunTimeEndian.Little interrupted (table_index 3) 7 ≡ 0 ∷ 2 ∷ [])
    × (names_of_hash RunTimeEndian.Little interrupted (table_index 3) 7 ≡ 0 ∷ [])
