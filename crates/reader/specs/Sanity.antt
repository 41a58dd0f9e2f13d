-- What a reader of the definitions may want to be sure of: numbers are read back and are below their width; a
-- reading moves forward and looks at no byte outside its part; a part that is cut out lies inside
-- (SPECIFICATION 3). The laws of proofs/ that have these types prove them: NumberLaws.antt and PartLaws.antt.
use Rattle.std.specs.Prelude.{ℕ, ◌+◌, ◌^◌, ◌≤◌, ◌<◌, ◌≡◌, List, ◌++◌, length}
use Rattle.std.proofs.Math.Seq.{slice}
use Rattle.reader.specs.Outcome.{answered}
use Rattle.reader.specs.Parts.{part_end, Forward, cut, Section}
use Rattle.reader.specs.Numbers.{Bytes, spelled, bytes_of, read_number, initial_length}
use Rattle.reader.specs.declared.reader.Read.{Read}
use Rattle.reader.specs.declared.reader.InitialLength.{InitialLength}
use Rattle.reader.specs.declared.reader.Part.{Part}
use Rattle.reader.specs.declared.endianity.RunTimeEndian.{RunTimeEndian}

-- `bytes_of` and `spelled` are inverse: a number that fits has bytes that spell it, and bytes are those of
-- what they spell
abbrev pub BytesSpell : Type 0
BytesSpell = (order : RunTimeEndian) (n v : ℕ) → v < 256 ^ n → spelled order (bytes_of order n v) ≡ v

abbrev pub SpelledBytes : Type 0
SpelledBytes = (order : RunTimeEndian) (bs : List ℕ) → Bytes bs → bytes_of order (length bs) (spelled order bs) ≡ bs

-- a number whose bytes stand at `at`, whatever follows them, is read back, with the next place right after it
abbrev pub NumbersReadBack : Type 0
NumbersReadBack =
    (order : RunTimeEndian) (n v : ℕ) (s after : List ℕ) (at end : ℕ) → 1 ≤ n → v < 256 ^ n
    → slice at end s ≡ bytes_of order n v ++ after
    → read_number n order s at end ≡ answered (record { value = v; next = at + n })

-- every number read is below its width
abbrev pub NumbersBelow : Type 0
NumbersBelow =
    (n : ℕ) (order : RunTimeEndian) (s : Section) (at end : ℕ) (r : Read ℕ) → Bytes s → read_number n order s at end ≡ answered r
    → r.value < 256 ^ n

abbrev pub LengthsBelow : Type 0
LengthsBelow =
    (order : RunTimeEndian) (s : Section) (at end : ℕ) (l : InitialLength) → Bytes s → initial_length order s at end ≡ answered l
    → l.length < 2 ^ 64

-- an answered read moves forward by at least one byte and stays inside its part
abbrev pub NumbersForward : Type 0
NumbersForward =
    (n : ℕ) (order : RunTimeEndian) (s : Section) (at end : ℕ) (r : Read ℕ) → 1 ≤ n → read_number n order s at end ≡ answered r
    → Forward s at end r.next

abbrev pub LengthsForward : Type 0
LengthsForward =
    (order : RunTimeEndian) (s : Section) (at end : ℕ) (l : InitialLength) → initial_length order s at end ≡ answered l
    → Forward s at end l.next

-- a read looks at no byte outside its part: of two sections with the same bytes there, it answers the same
abbrev pub NumbersInPart : Type 0
NumbersInPart =
    (n : ℕ) (order : RunTimeEndian) (s t : Section) (at end : ℕ) → 1 ≤ n → slice at end s ≡ slice at end t
    → read_number n order s at end ≡ read_number n order t at end

abbrev pub LengthsInPart : Type 0
LengthsInPart =
    (order : RunTimeEndian) (s t : Section) (at end : ℕ) → slice at end s ≡ slice at end t
    → initial_length order s at end ≡ initial_length order t at end

-- a part that is cut out begins at its place, has n bytes, and lies inside the part that it is cut from
abbrev pub CutsInside : Type 0
CutsInside =
    (n : ℕ) (s : Section) (at end : ℕ) (p : Part) → cut n s at end ≡ answered p
    → (p.at ≡ at) × (p.end ≡ at + n) × (p.end ≤ part_end s end)
