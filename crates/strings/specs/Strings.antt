-- The strings of .debug_str (SPECIFICATION 7.7). `s` is here .debug_str, and places are counted from its
-- start. Tested in this order: refused with 13 where `s` is too long; with 1 at place 0 where the offset lies
-- behind its end; with 1 at the offset where no zero byte stands there or behind it, as at the very end. Else
-- the string begins at the offset, and its length is the number of bytes before the first zero byte, which
-- does not count.
-- gimli's `get_str` gives the bytes themselves. Here one call answers where the string stands, or the
-- refusal, and another gives its bytes, none where the first refuses.
use Rattle.std.specs.Prelude.{ℕ, ◌+◌, List, [], ◌∷◌, cond, length, take, drop, ltb, eqb}
use Rattle.reader.specs.Outcome.{Outcome, answered, refused, ◌>>=◌, ◌>>◌}
use Rattle.reader.specs.declared.error.Error.TheVariants.{SectionTooLong, UnexpectedEof}
use Rattle.reader.specs.Errors.{longest, fail_if, require}
use Rattle.reader.specs.Parts.{Section, skipped}
use Rattle.strings.specs.declared.Str.{Str}

-- the bytes before the first zero byte
unfoldable pub before_zero : List ℕ → List ℕ
before_zero [] = []
before_zero (b ∷ bs) = cond (eqb b 0) [] (b ∷ before_zero bs)

-- the place of the first zero byte from `start` on, or where the bytes end
unfoldable pub zero_from : Section → ℕ → ℕ
zero_from s start = start + length (before_zero (drop start s))

-- the string at an offset: up to the first zero byte; refusal 1 at its start where there is none, and at 0
-- where the offset lies past the end
unfoldable pub get_str : Section → ℕ → Outcome Str
get_str s offset = do
  fail_if (ltb longest (length s)) SectionTooLong
  start ← skipped offset s 0 (length s)
  require (ltb (zero_from s start) (length s)) (UnexpectedEof start)
  answered (record { start = start; len = length (before_zero (drop start s)) })

-- the bytes that stand there; none where it is refused
unfoldable pub text_bytes : Section → Outcome Str → List ℕ
text_bytes s (answered t) = take t.len (drop t.start s)
text_bytes s (refused n v) = []

-- the bytes of the string at an offset
unfoldable pub str_bytes : Section → ℕ → List ℕ
str_bytes s offset = text_bytes s (get_str s offset)
