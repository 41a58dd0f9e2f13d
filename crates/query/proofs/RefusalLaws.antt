-- A refused query changes no record.
use Prim.Native.Nat.{ℕ}
use mathlib.Core.Path.{◌≡◌, sym, ap, ◌∙◌}
use mathlib.Core.List.{List}
use Rattle.reader.specs.Outcome.{refused}
use Rattle.reader.specs.Errors.{number_of, value_of}
use Rattle.reader.specs.declared.endianity.RunTimeEndian.{RunTimeEndian}
use Rattle.records.specs.declared.record.Record.{Record}
use Rattle.query_plan.specs.Plans.{queried}
use Rattle.query.specs.Query.{overlaid, section_query}
use Rattle.query.specs.Sanity.{RefusedUnchanged}

pub refused_records : (order : RunTimeEndian) (s strs : List ℕ) (hash : ℕ) (text : List ℕ) (lent : List Record) (n v : ℕ)
    → (section_query order s strs hash text lent).answer ≡ refused n v → (section_query order s strs hash text lent).records ≡ lent
unfolding section_query queried overlaid
refused_records order s strs hash text lent n v e = rw e

pub refused_unchanged : RefusedUnchanged
refused_unchanged order s strs hash text lent after e is =
    ap (λ q. q.records) is ∙ refused_records order s strs hash text lent (number_of e) (value_of e) (sym (ap (λ q. q.answer) is))
