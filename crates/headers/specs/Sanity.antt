-- What a reader of the definitions, and the crates above, may want to be sure of: how many bytes of padding
-- there are, for every size, and that gimli's formula gives the same; a header fits its section; a walk over
-- the headers ends; a header depends on the bytes of its own part alone (SPECIFICATION 5). The laws of
-- proofs/HeaderLaws.antt that have these types prove them.
use Rattle.std.specs.Prelude.{ℕ, ◌+◌, ◌-◌, ◌*◌, ◌%◌, ◌≤◌, ◌<◌, ◌≡◌, true, List, [], ◌∷◌, map, length, Some}
use Rattle.std.proofs.Math.Seq.{slice}
use Rattle.reader.specs.Outcome.{answered}
use Rattle.reader.specs.Errors.{longest}
use Rattle.reader.specs.Steps.{Taken, Linked, answers, has_end}
use Rattle.reader.specs.Listing.{listed}
use Rattle.reader.specs.declared.endianity.RunTimeEndian.{RunTimeEndian}
use Rattle.headers.specs.declared.header.HeaderCut.{HeaderCut}
use Rattle.headers.specs.declared.header.NameIndexHeader.{NameIndexHeader}
use Rattle.headers.specs.declared.headers.NameIndexHeaderIter.{NameIndexHeaderIter}
use Rattle.headers.specs.Header.{padding, header_body, header}
use Rattle.headers.specs.Headers.{header_step, header_at, headers_from}
use Rattle.reader.specs.Parts.{Section}

-- the four cases, for every size
abbrev pub PaddingCases : Type 0
PaddingCases =
    (size : ℕ)
    → (size % 4 ≡ 0 → padding size ≡ 0)
    × (size % 4 ≡ 1 → padding size ≡ 3)
    × (size % 4 ≡ 2 → padding size ≡ 2)
    × (size % 4 ≡ 3 → padding size ≡ 1)

-- for every size they skip as many bytes as the formula without cases does, which is gimli's `(4 - (size &
-- 3)) & 3`: `& 3` is the remainder by 4
abbrev pub PaddingSum : Type 0
PaddingSum = (size : ℕ) → padding size ≡ (4 - size % 4) % 4

-- so the padding brings a size to a multiple of 4 (`PaddingFills`), and no smaller number does (`PaddingLeast`)
abbrev pub PaddingFills : Type 0
PaddingFills = (size : ℕ) → (m : ℕ) × (size + padding size ≡ 4 * m)

abbrev pub PaddingLeast : Type 0
PaddingLeast = (size n m : ℕ) → size + n ≡ 4 * m → padding size ≤ n

-- computed, the padding of the sizes 0 to 8, and of the largest that 4 bytes spell
abbrev pub PaddingComputed : Type 0
PaddingComputed = map padding (0 ∷ 1 ∷ 2 ∷ 3 ∷ 4 ∷ 5 ∷ 6 ∷ 7 ∷ 8 ∷ 4294967295 ∷ []) ≡ 0 ∷ 3 ∷ 2 ∷ 1 ∷ 0 ∷ 3 ∷ 2 ∷ 1 ∷ 0 ∷ 1 ∷ []

-- a header fits the section that it was read from, and its index ends past its place
abbrev pub HeadersFit : Type 0
HeadersFit =
    (order : RunTimeEndian) (s : Section) (at : ℕ) (h : NameIndexHeader) → header order s at ≡ answered h
    → (at < h.content.end) × (h.content.at ≤ h.content.end) × (h.content.end ≤ length s)

-- a step that gives a header moves forward and stays inside the section
abbrev pub StepsForward : Type 0
StepsForward =
    (order : RunTimeEndian) (s : Section) (c : NameIndexHeaderIter) (h : NameIndexHeader)
    → (header_step order s c).answer ≡ answered (Some h)
    → (c.at < (header_step order s c).cursor.at) × ((header_step order s c).cursor.at ≤ length s)

-- so a walk over the headers of a section ends: of any steps, each given the cursor of the one before, one is
-- the end if they are more than the bytes that were left
abbrev pub WalksEnd : Type 0
WalksEnd =
    (order : RunTimeEndian) (s : Section) (c : NameIndexHeaderIter) (ts : List (Taken NameIndexHeader NameIndexHeaderIter))
    → length s ≤ longest → c.at ≤ length s
    → Linked (header_step order s) c ts → length s - c.at < length ts → has_end (answers ts) ≡ true

-- the headers from a place on are the header there, and those from the place where its index ends
abbrev pub HeadersUnfold : Type 0
HeadersUnfold =
    (order : RunTimeEndian) (s : Section) (at : ℕ)
    → headers_from order s at ≡ listed (header_at order s at) λ h. headers_from order s h.content.end

-- the fields of a header depend on the bytes of its own part alone
abbrev pub BodiesInPart : Type 0
BodiesInPart =
    (order : RunTimeEndian) (s t : Section) (c : HeaderCut) → c.body.end ≤ length s → c.body.end ≤ length t
    → slice c.body.at c.body.end s ≡ slice c.body.at c.body.end t → header_body order s c ≡ header_body order t c
