-- The units of an index (SPECIFICATION 7.2 to 7.4; DWARF 5, 6.1.1.4). `s` is the section and `i` the index.
-- Each call tests 13 and 14 first; then the unit is found in the index that fits, which `p` has with the
-- places of its parts. Unit k of a list is reached by a skip from the list's start and then read, both inside
-- the list (SPECIFICATION 3.4): a number equal to the count is refused with 1 at the list's end, a larger one
-- with 1 at the list's start. Compile units and local type units are offsets in .debug_info, a word each;
-- foreign type units are signatures of 8 bytes, in both formats. In one count of type units the local ones
-- come first, then the foreign ones. The default compile unit is compile unit 0 where the index has exactly
-- one, else none.
use Rattle.std.specs.Prelude.{ℕ, ◌-◌, ◌*◌, cond, ltb, eqb, Option, Some, None}
use Rattle.reader.specs.Outcome.{Outcome, answered, ◌>>=◌}
use Rattle.reader.specs.Parts.{skipped}
use Rattle.reader.specs.Numbers.{read_number}
use Rattle.reader.specs.declared.endianity.RunTimeEndian.{RunTimeEndian}
use Rattle.reader.specs.declared.common.Format.{Format}
use Rattle.reader.specs.declared.common.DebugInfoOffset.{DebugInfoOffset}
use Rattle.reader.specs.declared.common.DebugTypeSignature.{DebugTypeSignature}
use Rattle.index.specs.declared.layout.NameIndex.{NameIndex}
use Rattle.index.specs.declared.layout.Parts.{Parts}
use Rattle.index.specs.Words.{nth_word}
use Rattle.index.specs.Layout.{fitted}
use Rattle.names.specs.declared.units.NameTypeUnit.{NameTypeUnit}
use Rattle.reader.specs.Parts.{Section}

-- the word of number k in a list from `at` up to `end`, as an offset of .debug_info
unfoldable pub unit_in : Format → RunTimeEndian → Section → ℕ → ℕ → ℕ → Outcome DebugInfoOffset
unit_in format order s at end k = do
  offset ← nth_word format order s at end k
  answered (record { 0 = offset.value })

-- a section, in its byte order
module _ (order : RunTimeEndian) (s : Section) where
  -- the units of an index whose parts are `p`, by their number
  unfoldable pub compile_unit_in : Parts → ℕ → Outcome DebugInfoOffset
  compile_unit_in p k = unit_in p.index.format order s p.compile_unit_list p.local_type_unit_list k

  unfoldable pub local_type_unit_in : Parts → ℕ → Outcome DebugInfoOffset
  local_type_unit_in p k = unit_in p.index.format order s p.local_type_unit_list p.foreign_type_unit_list k

  -- signatures have 8 bytes in both formats
  unfoldable pub foreign_type_unit_in : Parts → ℕ → Outcome DebugTypeSignature
  foreign_type_unit_in p k = do
    place ← skipped (8 * k) s p.foreign_type_unit_list p.bucket_data
    signature ← read_number 8 order s place p.bucket_data
    answered (record { 0 = signature.value })

  -- local numbers first, then foreign ones
  unfoldable pub type_unit_in : Parts → ℕ → Outcome NameTypeUnit
  type_unit_in p k = cond (ltb k p.index.local_type_unit_count)
      (do
        unit ← local_type_unit_in p k
        answered (NameTypeUnit.Local unit))
      (do
        signature ← foreign_type_unit_in p (k - p.index.local_type_unit_count)
        answered (NameTypeUnit.Foreign signature))

  -- the only unit if there is one, else none
  unfoldable pub default_compile_unit_in : Parts → Outcome (Option DebugInfoOffset)
  default_compile_unit_in p = cond (eqb p.index.compile_unit_count 1)
      (do
        unit ← compile_unit_in p 0
        answered (Some unit))
      (answered None)

  -- the calls: 13 and 14 of the index are tested first
  unfoldable pub nth_compile_unit : NameIndex → ℕ → Outcome DebugInfoOffset
  nth_compile_unit i k = fitted s i >>= λ p. compile_unit_in p k

  unfoldable pub local_type_unit : NameIndex → ℕ → Outcome DebugInfoOffset
  local_type_unit i k = fitted s i >>= λ p. local_type_unit_in p k

  unfoldable pub foreign_type_unit : NameIndex → ℕ → Outcome DebugTypeSignature
  foreign_type_unit i k = fitted s i >>= λ p. foreign_type_unit_in p k

  unfoldable pub nth_type_unit : NameIndex → ℕ → Outcome NameTypeUnit
  nth_type_unit i k = fitted s i >>= λ p. type_unit_in p k

  unfoldable pub default_compile_unit : NameIndex → Outcome (Option DebugInfoOffset)
  default_compile_unit i = fitted s i >>= λ p. default_compile_unit_in p
