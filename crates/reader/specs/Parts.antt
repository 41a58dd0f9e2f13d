-- Bytes of a part (SPECIFICATION 1.2 and 3.1). A place is a number of bytes from the section's start. A part
-- of the section `s` is given by the place `end` where it ends; an end behind the section's end means the
-- section's end. What is left of it at the place `at` are the bytes from there up to its end:
-- `slice at end s` of the library. Any number is a legal place: where `at` lies at or behind the end, nothing
-- is left.
-- A skip of n bytes answers the place n further on. Where that lies behind the part's end, it is refused
-- with 1 and the place `at`: a skip of 0 is answered at the end of a part, and refused behind it. A part of n
-- bytes is cut out at `at`, or refused as that skip is.
-- gimli's reader is a position that moves. Here a reading takes a place and answers the next one, so that a
-- refusal moves nothing; and places and ends behind the section's end are legal, which gimli cannot express.
use Rattle.std.specs.Prelude.{ℕ, ◌+◌, ◌-◌, ◌<◌, ◌≤◌, min, List, cond, length, leb}
use Rattle.reader.specs.Outcome.{Outcome, answered, ◌>>=◌}
use Rattle.reader.specs.declared.reader.Part.{Part}
use Rattle.reader.specs.Errors.{refusal}
use Rattle.reader.specs.declared.error.Error.TheVariants.{UnexpectedEof}

-- the bytes of a section
abbrev pub Section : Type 0
Section = List ℕ

-- where the part ends: at `end`, or with the section
abbrev pub part_end : Section → ℕ → ℕ
part_end s end = min end (length s)

-- how many bytes the part has from `at` on: the length of `slice at end s` (`left_is_length`)
abbrev pub left_at : Section → ℕ → ℕ → ℕ
left_at s at end = part_end s end - at

-- a read that goes from `at` to `next` moves forward by at least one byte and stays inside its part
abbrev pub Forward : Section → ℕ → ℕ → ℕ → Type 0
Forward s at end next = (at < next) × (next ≤ part_end s end)

-- the place past n bytes; refusal 1 at `at` where that lies past the part's end
unfoldable pub skipped : ℕ → Section → ℕ → ℕ → Outcome ℕ
skipped n s at end = cond (leb (at + n) (part_end s end)) (answered (at + n)) (refusal (UnexpectedEof at))

-- the part of n bytes at `at`, refused as the skip over it is
unfoldable pub cut : ℕ → Section → ℕ → ℕ → Outcome Part
cut n s at end = do
  next ← skipped n s at end
  answered (record { at = at; end = next })
