-- What a reader of the definitions may want to be sure of: how many records there can be at most
-- (SPECIFICATION 12.7). The laws of proofs/ that have these types prove them.
use Rattle.std.specs.Prelude.{ℕ, ◌*◌, ◌≤◌, List, length}
use Rattle.reader.specs.Listing.{items}
use Rattle.reader.specs.declared.endianity.RunTimeEndian.{RunTimeEndian}
use Rattle.section_records.specs.Records.{section_records}
use Rattle.reader.specs.Parts.{Section}

-- N names may share one series, so the number of records can grow with the square of the section's length; it
-- is at most a 32nd of that square, which for sections of up to 2^34 bytes has 64 bits
abbrev pub TotalsBounded : Type 0
TotalsBounded =
    (order : RunTimeEndian) (s strs : Section) (hash : ℕ) (text : List ℕ)
    → 32 * items (section_records order s strs hash text) ≤ length s * length s
