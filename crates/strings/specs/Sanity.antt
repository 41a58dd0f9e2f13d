-- What a reader of the definitions may want to be sure of: where a string ends (SPECIFICATION 7.7). The law
-- of proofs/StringLaws.antt that has this type proves it.
use Rattle.std.specs.Prelude.{ℕ, ◌≡◌, drop}
use Rattle.reader.specs.Outcome.{answered}
use Rattle.strings.specs.declared.Str.{Str}
use Rattle.strings.specs.Strings.{before_zero, get_str, str_bytes}
use Rattle.reader.specs.Parts.{Section}

-- the bytes of an answered string are those before the first zero byte from its offset on
abbrev pub StringsEndAtZero : Type 0
StringsEndAtZero =
    (s : Section) (offset : ℕ) (t : Str) → get_str s offset ≡ answered t → str_bytes s offset ≡ before_zero (drop offset s)
