-- What a query answers, and what there is to write (SPECIFICATION 12.7 and 12.8). It answers the total, the
-- number of all records of the section, however many are lent, and writes the first of them. The first
-- refusal that is met refuses the query as a whole, and then nothing is written.
use Rattle.std.specs.Prelude.{ℕ, List, []}
use Rattle.reader.specs.Outcome.{Outcome, answered, refused}
use Rattle.reader.specs.Listing.{Listing, items_of, counted}
use Rattle.records.specs.declared.record.Record.{Record}

-- what a query answers, its total or the refusal, and records: here those to write; of `query` those that it
-- was lent, as they are at exit
pub record Queried : Type 0 where
  pub answer : Outcome ℕ
  pub records : List Record

-- these, or none where the query is refused
abbrev pub unless_refused : Outcome ℕ → List Record → List Record
unless_refused (answered total) list = list
unless_refused (refused n v) list = []

-- what is answered of a list of records, and what there is to write of it
unfoldable pub queried : Listing Record → Queried
queried l = record { answer = counted l; records = unless_refused (counted l) (items_of l) }
