-- What a reader of the definitions, and the crates above, may want to be sure of: a declaration lies inside
-- its part, a table is its declarations one after another and depends on the bytes of its own part alone, and
-- what a search finds stands there and has the code (SPECIFICATION 8). The laws of
-- proofs/AbbreviationLaws.antt that have these types prove them.
use Rattle.std.specs.Prelude.{ℕ, ◌<◌, ◌≡◌, Some}
use Rattle.std.proofs.Math.Seq.{slice}
use Rattle.reader.specs.Outcome.{answered}
use Rattle.reader.specs.Parts.{Section, Forward}
use Rattle.reader.specs.Listing.{listed}
use Rattle.abbreviations.specs.Abbreviations.{attributes, Declaration, declaration, table, find}

-- a table is its first declaration and the table after it
abbrev pub TablesUnfold : Type 0
TablesUnfold = (s : Section) (at end : ℕ) → table s at end ≡ listed (declaration s at end) λ d. table s d.next end

-- a declaration takes at least a byte and stays inside its part
abbrev pub DeclarationsForward : Type 0
DeclarationsForward = (s : Section) (at end : ℕ) (d : Declaration) → declaration s at end ≡ answered (Some d) → Forward s at end d.next

-- its attributes are those that are read at the place that it is handed out with
abbrev pub DeclarationsRead : Type 0
DeclarationsRead =
    (s : Section) (at end : ℕ) (d : Declaration) → declaration s at end ≡ answered (Some d)
    → (at < d.place) × (attributes s d.place end ≡ answered (record { list = d.attributes; next = d.next }))

-- what a search finds has the code, and stands in the table: some place of the part has that declaration
abbrev pub FoundInTable : Type 0
FoundInTable =
    (code : ℕ) (s : Section) (at end : ℕ) (d : Declaration) → find code (table s at end) ≡ answered (Some d)
    → (d.code ≡ code) × ((place : ℕ) × (declaration s place end ≡ answered (Some d)))

-- a table looks at no byte outside its part
abbrev pub TablesInPart : Type 0
TablesInPart = (s t : Section) (at end : ℕ) → slice at end s ≡ slice at end t → table s at end ≡ table t at end
