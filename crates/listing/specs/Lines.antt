-- The lines of a section, and the steps over them (SPECIFICATION 13.1 to 13.3), which gimli does not have.
-- `s` is the section and `c` a cursor. 13 comes before every line. For each header from place 0 on there is a
-- line for its index, then one for each of its names, in order; the last line has the number of indexes. A
-- refusal stands in the place of its line, and nothing follows it.
-- A step of a listing that is over answers the end, and the cursor stays. Else, if the cursor's name is below
-- the number of names of the open index, it answers the line of that name, with 13 and 14 of that index. Else
-- it is refused with 14 if more indexes were listed than there are bytes before the next header's place,
-- which is tested before 13. Else it is the header step, with its refusals, and answers the line of the
-- header's index; at the section's end it answers the last line, and the listing is over. After every refusal
-- the listing is over.
use Rattle.std.specs.Prelude.{ℕ, ◌+◌, true, false, cond, List, [], ◌∷◌, length, ltb, leb}
use Rattle.std.specs.Prelude.{Option, Some, None}
use Rattle.reader.specs.Outcome.{Outcome, answered, refused}
use Rattle.reader.specs.declared.error.Error.TheVariants.{DoesNotFit, SectionTooLong}
use Rattle.reader.specs.Errors.{longest, fail_if}
use Rattle.reader.specs.Steps.{Step}
use Rattle.reader.specs.Listing.{Listing, ended, broken, item, or_broken}
use Rattle.reader.specs.declared.endianity.RunTimeEndian.{RunTimeEndian}
use Rattle.headers.specs.declared.header.NameIndexHeader.{NameIndexHeader}
use Rattle.headers.specs.Headers.{header_step, headers_from}
use Rattle.index.specs.declared.layout.NameIndex.{NameIndex}
use Rattle.index.specs.Layout.{no_index}
use Rattle.hashes.specs.Table.{names_from}
use Rattle.listing.specs.declared.lines.Line.{Line}
use Rattle.listing.specs.declared.lines.ListingIter.{ListingIter}
use Rattle.listing.specs.Names.{name_line}
use Rattle.listing.specs.Indexes.{opened_index}
use Rattle.reader.specs.Parts.{Section}

-- the cursor before the first line: no index is open
unfoldable pub first_line : ListingIter
first_line = record { at = 0; listed = 0; index = no_index; name = record { 0 = 0 }; done = false }

-- a cursor whose listing has ended, one after a name, and one after an index's own line
abbrev pub ended_at : ListingIter → ListingIter
ended_at c = record { at = c.at; listed = c.listed; index = c.index; name = c.name; done = true }

abbrev pub past_name : ListingIter → ListingIter
past_name c = record { at = c.at; listed = c.listed; index = c.index; name = record { 0 = c.name.0 + 1 }; done = false }

abbrev pub past_index : ListingIter → NameIndexHeader → NameIndex → ListingIter
past_index c h i = record { at = h.content.end; listed = c.listed + 1; index = i; name = record { 0 = 0 }; done = false }

-- what a step answers: a refusal ends the listing
abbrev pub line_or : {A : Type 0} → ListingIter → Outcome A → (A → Step Line ListingIter) → Step Line ListingIter
line_or c (answered a) more = more a
line_or c (refused n v) more = record { answer = refused n v; cursor = ended_at c }

-- a section, in its byte order
module _ (order : RunTimeEndian) (s : Section) where
  -- the lines of these names of an index, and what comes after them; a refusal stands in the place of its
  -- line, and ends the listing
  unfoldable pub name_lines : NameIndex → List ℕ → Listing Line → Listing Line
  name_lines i [] after = after
  name_lines i (n ∷ ns) after = or_broken (name_line order s i (record { 0 = n })) λ l. item (Line.Name l) (name_lines i ns after)

  -- the lines of these headers, where that many indexes were listed before them: for each its own line and
  -- those of its names in order, and after the last how many there were
  unfoldable pub header_lines : ℕ → Listing NameIndexHeader → Listing Line
  header_lines listed ended = item (Line.Indexes listed) ended
  header_lines listed (broken n v) = broken n v
  header_lines listed (item h rest) =
      or_broken (opened_index order s h) λ o.
      item (Line.Index o.line) (name_lines o.index (names_from o.index 0) (header_lines (listed + 1) rest))

  -- the lines of a section
  unfoldable pub section_lines : Listing Line
  section_lines = or_broken (fail_if (ltb longest (length s)) SectionTooLong) λ u. header_lines 0 (headers_from order s 0)

  -- the line of the header at the cursor's place, or after the last the number of indexes
  abbrev pub header_line : ListingIter → Option NameIndexHeader → Step Line ListingIter
  header_line c None = record { answer = answered (Some (Line.Indexes c.listed)); cursor = ended_at c }
  header_line c (Some h) =
      line_or c (opened_index order s h) λ o. record { answer = answered (Some (Line.Index o.line)); cursor = past_index c h o.index }

  -- the step to the next index: a cursor that has listed more indexes than there are bytes before its place
  -- does not fit
  unfoldable pub head_step : ListingIter → Step Line ListingIter
  head_step c =
      line_or c (fail_if (ltb c.at c.listed) DoesNotFit) λ u.
      line_or c (header_step order s (record { at = c.at })).answer (header_line c)

  -- the step: the names of the open index, then the next index
  unfoldable pub line_step : ListingIter → Step Line ListingIter
  line_step c = cond c.done
      (record { answer = answered None; cursor = c })
      (cond (leb c.index.name_count c.name.0)
      (head_step c)
      (line_or c (name_line order s c.index c.name) λ l. record { answer = answered (Some (Line.Name l)); cursor = past_name c }))
