-- The header of an index (SPECIFICATION 5.2 to 5.5; DWARF 5, 6.1.1.4.1), a line a field. `s` is the section,
-- and what is read begins at the place `at`. First the initial length, read in the whole section; the index
-- is the part of so many bytes behind it, and where the section has fewer, it is 1 at the place behind the
-- length. All else is read inside this part, which ends at `end`; each field is refused with 1 at its own
-- place where too few bytes are left: the version, 2 bytes, which is refused with 3 and the version if it is
-- not 5; 2 bytes of padding; the numbers of compile units, local type units, foreign type units, buckets and
-- names, the size of the abbreviation table and that of the augmentation string, 4 bytes each; that string,
-- which is none if its size is 0; and behind it 0, 3, 2 or 1 bytes of padding, as its size mod 4 is 0, 1, 2
-- or 3. What is left is the content of the index.
-- DWARF 5 counts the padding of the augmentation in its size, which then is a multiple of 4. Here, as in
-- gimli, the size is that of the string alone, and the padding is passed over, whatever it is; so are the two
-- bytes behind the version, which DWARF 5 reserves as 0.
use Rattle.std.specs.Prelude.{ℕ, ◌%◌, cond, length, eqb, Option, Some, None}
use Rattle.reader.specs.Outcome.{Outcome, answered, ◌>>=◌, ◌>>◌}
use Rattle.reader.specs.Parts.{skipped, cut}
use Rattle.reader.specs.Numbers.{read_number, initial_length}
use Rattle.reader.specs.declared.reader.Read.{Read}
use Rattle.reader.specs.declared.endianity.RunTimeEndian.{RunTimeEndian}
use Rattle.headers.specs.declared.header.HeaderCut.{HeaderCut}
use Rattle.headers.specs.declared.header.Counts.{Counts}
use Rattle.headers.specs.declared.header.AugmentationString.{AugmentationString}
use Rattle.headers.specs.declared.header.NameIndexHeader.{NameIndexHeader}
use Rattle.reader.specs.Errors.{require}
use Rattle.reader.specs.declared.error.Error.TheVariants.{UnknownVersion}
use Rattle.reader.specs.Parts.{Section}

-- how many bytes are skipped behind an augmentation, by the remainder of its size by 4 (SPECIFICATION 5.4): 0
-- skips 0, 1 skips 3, 2 skips 2, 3 skips 1
unfoldable pub padding_for : ℕ → ℕ
padding_for remainder =
    cond (eqb remainder 0) 0
    (cond (eqb remainder 1) 3
    (cond (eqb remainder 2) 2
    -- the remainder is 3
    1))

-- the padding of a size: the fewest bytes that bring it to a multiple of 4 (`PaddingFills` and `PaddingLeast`
-- of Sanity). DWARF 5 counts them in the size, which is then such a multiple, and nothing is skipped; gimli
-- skips them for any size, whatever they are, and so it is here (docs/DIFFERENCES.md). The field that DWARF 5
-- calls padding is another, the two bytes behind the version
unfoldable pub padding : ℕ → ℕ
padding size = padding_for (size % 4)

-- the augmentation: none if the size is 0; else its place and length, and the place past its padding, which
-- depends on the size alone
unfoldable pub augmentation : ℕ → Section → ℕ → ℕ → Outcome (Read (Option AugmentationString))
augmentation size s at end = cond (eqb size 0) (answered (record { value = None; next = at })) (do
  string ← cut size s at end
  next ← skipped (padding size) s string.end end
  answered (record { value = Some (record { place = string.at; len = size }); next = next }))

-- a section, in its byte order
module _ (order : RunTimeEndian) (s : Section) where
  -- the part of the index whose header begins at `at`: as many bytes as its length says, past the length
  unfoldable pub header_cut : ℕ → Outcome HeaderCut
  header_cut at = do
    l ← initial_length order s at (length s)
    part ← cut l.length s l.next (length s)
    answered (record {
      offset = record { 0 = at };
      length = l.length;
      format = l.format;
      body = record { at = part.at; end = part.end };
    })

  -- the seven numbers of 4 bytes
  unfoldable pub counts : ℕ → ℕ → Outcome Counts
  counts at end = do
    units ← read_number 4 order s at end
    localTypeUnits ← read_number 4 order s units.next end
    foreignTypeUnits ← read_number 4 order s localTypeUnits.next end
    buckets ← read_number 4 order s foreignTypeUnits.next end
    names ← read_number 4 order s buckets.next end
    abbreviations ← read_number 4 order s names.next end
    augmentationSize ← read_number 4 order s abbreviations.next end
    answered (record {
      compile_unit_count = units.value;
      local_type_unit_count = localTypeUnits.value;
      foreign_type_unit_count = foreignTypeUnits.value;
      bucket_count = buckets.value;
      name_count = names.value;
      abbrev_table_size = abbreviations.value;
      augmentation_string_size = augmentationSize.value;
      next = augmentationSize.next;
    })

  -- the fields inside the part
  unfoldable pub header_body : HeaderCut → Outcome NameIndexHeader
  header_body c = do
    version ← read_number 2 order s c.body.at c.body.end
    require (eqb version.value 5) (UnknownVersion version.value)
    padded ← skipped 2 s version.next c.body.end
    n ← counts padded c.body.end
    a ← augmentation n.augmentation_string_size s n.next c.body.end
    answered (record {
      offset = c.offset;
      length = c.length;
      format = c.format;
      version = version.value;
      compile_unit_count = n.compile_unit_count;
      local_type_unit_count = n.local_type_unit_count;
      foreign_type_unit_count = n.foreign_type_unit_count;
      bucket_count = n.bucket_count;
      name_count = n.name_count;
      abbrev_table_size = n.abbrev_table_size;
      augmentation_string = a.value;
      content = record { at = a.next; end = c.body.end };
    })

  -- the header that begins at `at`
  unfoldable pub header : ℕ → Outcome NameIndexHeader
  header at = do
    c ← header_cut at
    header_body c
