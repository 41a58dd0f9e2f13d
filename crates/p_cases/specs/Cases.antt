-- SPECIFICATION 16.2: the cases marked P, as a computed list of the definitions. `cases_given` is what the
-- definitions say, `cases_expected` what SPECIFICATION 16.2 says.
use Rattle.std.specs.Prelude.{ℕ, ◌≡◌, List, [], ◌∷◌, ◌++◌, length, replicate}
use Rattle.reader.specs.Outcome.{Outcome, answered, refused}
use Rattle.reader.specs.declared.reader.Read.{Read}
use Rattle.leb128.specs.Leb128.{leb128, unsigned_limit, u16_limit}
use Rattle.reader.specs.declared.endianity.RunTimeEndian.{RunTimeEndian}
use Rattle.entries.specs.declared.entry.NameEntry.{NameEntry}
use Rattle.entries.specs.Entries.{name_entry}
use Rattle.hashes.specs.Table.{names_of_hash}
use Rattle.tables.specs.declared.TableCheck.{TableCheck}
use Rattle.tables.specs.Check.{table_check}
use Rattle.query_plan.specs.Plans.{Queried}
use Rattle.p_cases.specs.CaseA.{case_a, index_a, second_start}
use Rattle.p_cases.specs.Lost.{lost_one, lost_two}
use Rattle.p_cases.specs.Queries.{query_of_a, found_in_a}

-- what a case asks for
pub data CaseAnswer : Type 0 where
  number : Outcome (Read ℕ) → CaseAnswer
  entry : Outcome NameEntry → CaseAnswer
  names : List ℕ → CaseAnswer
  check : Outcome TableCheck → CaseAnswer
  query : Queried → CaseAnswer

-- `leb128::read::unsigned` and `leb128::read::u16` at the start of these bytes
abbrev unsigned : List ℕ → CaseAnswer
unsigned s = number (leb128 unsigned_limit s 0 (length s))

abbrev u16 : List ℕ → CaseAnswer
u16 s = number (leb128 u16_limit s 0 (length s))

-- `name_entry` in case A
abbrev entry_of_a : ℕ → CaseAnswer
entry_of_a offset = entry (name_entry RunTimeEndian.Little case_a index_a (record { 0 = offset }))

-- what a hash lists in case A
abbrev hash_of_a : ℕ → CaseAnswer
hash_of_a hash = names (names_of_hash RunTimeEndian.Little case_a index_a hash)

-- the table check of case A, and of case A with another second start
abbrev check_of_a : List ℕ → CaseAnswer
check_of_a s = check (table_check RunTimeEndian.Little s index_a)

abbrev pub cases_given : List CaseAnswer
cases_given =
    unsigned (replicate 9 0xff ++ 0x01 ∷ [])
    ∷ unsigned (replicate 9 0xff ++ 0x02 ∷ [])
    ∷ u16 (0xff ∷ 0xff ∷ 0x03 ∷ [])
    ∷ u16 (0xff ∷ 0xff ∷ 0x04 ∷ [])
    ∷ entry_of_a 5
    ∷ entry_of_a 18
    ∷ entry_of_a 19
    ∷ hash_of_a 4
    ∷ hash_of_a 9
    ∷ hash_of_a 6
    ∷ check_of_a case_a
    ∷ check_of_a (second_start 3)
    ∷ check_of_a (second_start 4)
    ∷ check_of_a (second_start 5)
    ∷ query query_of_a
    ∷ []

-- nine ff then 01 is 2^64-1, then 02 is 7; as u16, ff ff 03 is 65535, ff ff 04 is 7; entry 5 is 10; entry 18
-- is 1 at 109; entry 19 is 1 at 91; hash 4 lists 0; 9 lists 2; 6 lists none; missed is 0 (complete); second
-- start 3 makes it 1 and 4 makes it 2, in both with 1 as the smallest missed name and 7 as its hash; 5
-- refuses 1 at 48; the query (7, "de") has total 1 and the record 0, 6, name 1, tag 0x2e, kind 1, value 0,
-- DIE 0x20
abbrev pub cases_expected : List CaseAnswer
cases_expected =
    number (answered (record { value = 18446744073709551615; next = 10 }))
    ∷ number (refused 7 0)
    ∷ number (answered (record { value = 65535; next = 3 }))
    ∷ number (refused 7 0)
    ∷ entry (refused 10 5)
    ∷ entry (refused 1 109)
    ∷ entry (refused 1 91)
    ∷ names (0 ∷ [])
    ∷ names (2 ∷ [])
    ∷ names []
    ∷ check (answered TableCheck.Complete)
    ∷ check (answered (TableCheck.Incomplete lost_one))
    ∷ check (answered (TableCheck.Incomplete lost_two))
    ∷ check (refused 1 48)
    ∷ query found_in_a
    ∷ []

-- the theorem
unfoldable pub PCases : Type 0
PCases = cases_given ≡ cases_expected
