-- The names of an index and their strings (SPECIFICATION 7.5, 7.6 and 7.8; DWARF 5, 6.1.1.4). `s` is
-- .debug_names, `strs` is .debug_str, and `i` is the index; `p` has one that fits, with the places of its
-- parts. Names are counted from 0, as in gimli; DWARF 5 counts them from 1.
-- The step over the names: 13 and 14 of the index are tested first, and any cursor fits. Below N, the number
-- of names, it answers the cursor's name, and the cursor has the next number; at N or above it answers the
-- end, with the cursor unmoved.
-- The string offset of name k: 13 and 14, then element k of its list; where k is N, it is 1 at the list's
-- end; where k is larger, 1 at its start. The string of a name, in this order: 13 for .debug_names, 13 for
-- .debug_str, 14 of the index, the string offset, the string there. A refusal 1 of the offset carries a place
-- in .debug_names, one of the string a place in .debug_str.
use Rattle.std.specs.Prelude.{ℕ, ◌+◌, cond, List, length, ltb, leb}
use Rattle.std.specs.Prelude.{Some, None}
use Rattle.reader.specs.Outcome.{Outcome, answered, ◌>>=◌, ◌>>◌}
use Rattle.reader.specs.declared.error.Error.TheVariants.{SectionTooLong}
use Rattle.reader.specs.Errors.{longest, fail_if}
use Rattle.strings.specs.Strings.{get_str, text_bytes}
use Rattle.strings.specs.declared.Str.{Str}
use Rattle.reader.specs.Steps.{Step, keeping}
use Rattle.reader.specs.declared.endianity.RunTimeEndian.{RunTimeEndian}
use Rattle.reader.specs.declared.common.DebugStrOffset.{DebugStrOffset}
use Rattle.reader.specs.declared.common.NameTableIndex.{NameTableIndex}
use Rattle.index.specs.declared.layout.NameIndex.{NameIndex}
use Rattle.index.specs.declared.layout.Parts.{Parts}
use Rattle.index.specs.Layout.{fitted}
use Rattle.names.specs.declared.table.NameTableIter.{NameTableIter}
use Rattle.index.specs.Words.{nth_word}
use Rattle.reader.specs.Parts.{Section}

-- the cursor before a name, and the one before the first
abbrev pub name_cursor : ℕ → NameTableIter
name_cursor k = record { name_table_index = record { 0 = k } }

unfoldable pub first_name : NameTableIter
first_name = name_cursor 0

-- the step of a cursor before name k: the end, unmoved, where k is the number of names or more, else name k
unfoldable pub step_from : NameIndex → ℕ → Step NameTableIndex NameTableIter
step_from i k = cond (leb i.name_count k)
    (record { answer = answered None; cursor = name_cursor k })
    (record { answer = answered (Some (record { 0 = k })); cursor = name_cursor (k + 1) })

-- the step; 13 and 14 of the index are tested first, and any cursor fits
unfoldable pub name_step : Section → NameIndex → NameTableIter → Step NameTableIndex NameTableIter
name_step s i c = keeping c (do
  fitted s i
  answered (step_from i c.name_table_index.0))

-- a section, in its byte order
module _ (order : RunTimeEndian) (s : Section) where
  -- the string offset of a name, in an index whose parts are `p`
  unfoldable pub name_string_offset_in : Parts → NameTableIndex → Outcome DebugStrOffset
  name_string_offset_in p name = do
    offset ← nth_word p.index.format order s p.name_table_data p.entry_offset_data name.0
    answered (record { 0 = offset.value })

  -- and its string
  unfoldable pub name_string_in : Section → Parts → NameTableIndex → Outcome Str
  name_string_in strs p name = do
    offset ← name_string_offset_in p name
    get_str strs offset.0

  -- the calls: the string offset of a name,
  unfoldable pub name_string_offset : NameIndex → NameTableIndex → Outcome DebugStrOffset
  name_string_offset i name = fitted s i >>= λ p. name_string_offset_in p name

  -- its string: 13 for .debug_names, 13 for .debug_str, 14, the string offset, the string;
  unfoldable pub name_string : Section → NameIndex → NameTableIndex → Outcome Str
  name_string strs i name = do
    fail_if (ltb longest (length s)) SectionTooLong
    fail_if (ltb longest (length strs)) SectionTooLong
    p ← fitted s i
    name_string_in strs p name

  -- and its bytes in .debug_str, none where it is refused
  unfoldable pub name_string_bytes : Section → NameIndex → NameTableIndex → List ℕ
  name_string_bytes strs i name = text_bytes strs (name_string strs i name)
