-- What a reader of the definitions, and the crates above, may want to be sure of: the parts follow one
-- another and lie inside the section, an opened index fits, and opening depends on the bytes of its own part
-- alone (SPECIFICATION 6). The laws of proofs/ that have these types prove them: LayoutLaws.antt and
-- OpenLaws.antt.
use Rattle.std.specs.Prelude.{ℕ, suc, ◌+◌, ◌≤◌, ◌<◌, ◌≡◌, length, get_or}
use Rattle.std.proofs.Math.Seq.{slice}
use Rattle.reader.specs.Outcome.{answered}
use Rattle.reader.specs.Errors.{longest}
use Rattle.headers.specs.declared.header.NameIndexHeader.{NameIndexHeader}
use Rattle.index.specs.declared.layout.NameIndex.{NameIndex}
use Rattle.index.specs.Layout.{sizes, place, Fits}
use Rattle.index.specs.Open.{index_of, name_index}
use Rattle.reader.specs.Parts.{Section}

-- each part of an index begins where the one before it ends; the first begins where the parts begin
abbrev pub PartsFollow : Type 0
PartsFollow = (i : NameIndex) → (place i 0 ≡ i.begin) × ((k : ℕ) → k < 8 → place i (suc k) ≡ place i k + get_or (sizes i) k 0)

-- the parts of an index that fits lie inside the section, in order: so no two of them share a byte
abbrev pub PartsInside : Type 0
PartsInside =
    (s : Section) (i : NameIndex) → Fits s i → (j k : ℕ) → j ≤ k → k ≤ 8
    → (i.begin ≤ place i j) × (place i j ≤ place i k) × (place i k ≤ i.end) × (i.end ≤ length s)

-- an opened index fits its section, and is the one that the header describes
abbrev pub OpenedFits : Type 0
OpenedFits =
    (s : Section) (h : NameIndexHeader) (i : NameIndex) → name_index s h ≡ answered i
    → (length s ≤ longest) × Fits s i × (i ≡ index_of h)

-- what opening a header answers depends on the bytes of its own part alone
abbrev pub OpensInPart : Type 0
OpensInPart =
    (s t : Section) (h : NameIndexHeader) → length s ≤ longest → length t ≤ longest → h.content.end ≤ length s → h.content.end ≤ length t
    → slice h.content.at h.content.end s ≡ slice h.content.at h.content.end t → name_index s h ≡ name_index t h
