-- Words: numbers of 4 or 8 bytes, as the format of an index has them, and lists of them: SPECIFICATION 3.3
-- and 3.4. `s` is the section.
use Rattle.std.specs.Prelude.{ℕ, ◌*◌}
use Rattle.reader.specs.Outcome.{Outcome, ◌>>=◌}
use Rattle.reader.specs.Parts.{Section, skipped}
use Rattle.reader.specs.Numbers.{read_number, word_size}
use Rattle.reader.specs.declared.common.Format.{Format}
use Rattle.reader.specs.declared.endianity.RunTimeEndian.{RunTimeEndian}
use Rattle.reader.specs.declared.reader.Read.{Read}

-- the bytes of n words
unfoldable pub word_bytes : Format → ℕ → ℕ
word_bytes format n = word_size format * n

-- the word of number k in a list of words from `at` up to `end`: skip, then read
unfoldable pub nth_word : Format → RunTimeEndian → Section → ℕ → ℕ → ℕ → Outcome (Read ℕ)
nth_word format order s at end k = do
  place ← skipped (word_bytes format k) s at end
  read_number (word_size format) order s place end
