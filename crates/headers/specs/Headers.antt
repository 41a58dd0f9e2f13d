-- The headers of a section, one after another: `NameIndexHeaderIter::next` (SPECIFICATION 5.1). `s` is the
-- section; a cursor is a place, the first one 0. The step is refused with 13, then with 14 where the cursor
-- lies behind the section's end, and hands the cursor back as it was. At the section's end it answers the
-- end, with the cursor unmoved. Else it reads the header at the cursor: after a header the cursor is where
-- its index ends; after a refusal it is at the section's end, so that the next step answers the end.
-- What other files need is the header at a place, none at the section's end and behind it, and the list of
-- those from a place on. gimli's iterator holds its own bytes and has neither 13 nor 14.
use Rattle.std.specs.Prelude.{ℕ, ◌-◌, cond, length, ltb, leb, eqb, Option, Some, None}
use Rattle.reader.specs.Outcome.{Outcome, answered, refused, ◌>>=◌, ◌>>◌}
use Rattle.reader.specs.declared.error.Error.TheVariants.{DoesNotFit, SectionTooLong}
use Rattle.reader.specs.Errors.{longest, fail_if}
use Rattle.reader.specs.Steps.{Step, keeping}
use Rattle.reader.specs.Listing.{Listing, listing}
use Rattle.reader.specs.declared.endianity.RunTimeEndian.{RunTimeEndian}
use Rattle.headers.specs.declared.header.NameIndexHeader.{NameIndexHeader}
use Rattle.headers.specs.declared.headers.NameIndexHeaderIter.{NameIndexHeaderIter}
use Rattle.headers.specs.Header.{header}
use Rattle.reader.specs.Parts.{Section}

-- the cursor before the first header
unfoldable pub first_header : NameIndexHeaderIter
first_header = record { at = 0 }

-- after a header the cursor is where its index ends; after a refusal it is at the section's end
unfoldable pub after_header : Section → Outcome NameIndexHeader → Step NameIndexHeader NameIndexHeaderIter
after_header s (answered h) = record { answer = answered (Some h); cursor = record { at = h.content.end } }
after_header s (refused n v) = record { answer = refused n v; cursor = record { at = length s } }

-- a section, in its byte order
module _ (order : RunTimeEndian) (s : Section) where
  -- the step: at the section's end none, else the header there
  unfoldable pub header_step : NameIndexHeaderIter → Step NameIndexHeader NameIndexHeaderIter
  header_step c = keeping c (do
    fail_if (ltb longest (length s)) SectionTooLong
    fail_if (ltb (length s) c.at) DoesNotFit
    answered (cond (eqb c.at (length s)) (record { answer = answered None; cursor = c }) (after_header s (header order s c.at))))

  -- the header at a place, none at the section's end
  unfoldable pub header_at : ℕ → Outcome (Option NameIndexHeader)
  header_at at = cond (leb (length s) at) (answered None) (do
    h ← header order s at
    answered (Some h))

  -- the headers from a place on, each where the index before it ends, up to the section's end or the first
  -- that is refused
  unfoldable pub headers_from : ℕ → Listing NameIndexHeader
  headers_from at = listing header_at (λ h. h.content.end) (length s - at) at
