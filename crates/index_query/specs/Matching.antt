-- The names that match (SPECIFICATION 12.4). `s` is .debug_names and `strs` is .debug_str; `p` has the opened
-- index with the places of its parts, and `text` the bytes of the name that is asked for. The string of each
-- candidate is read in turn; a candidate matches if its string has exactly these bytes. The first string that
-- is refused breaks the list off, and so refuses the query.
use Rattle.std.specs.Prelude.{ℕ, Bool, true, false, cond, List, [], ◌∷◌, take, drop, eqb}
use Rattle.reader.specs.Outcome.{Outcome, answered, ◌>>=◌}
use Rattle.reader.specs.Listing.{Listing, ended, item, or_broken}
use Rattle.reader.specs.declared.endianity.RunTimeEndian.{RunTimeEndian}
use Rattle.index.specs.declared.layout.Parts.{Parts}
use Rattle.strings.specs.declared.Str.{Str}
use Rattle.names.specs.Names.{name_string_in}
use Rattle.reader.specs.Parts.{Section}

-- whether two lists of bytes are the same
unfoldable pub same_bytes : List ℕ → List ℕ → Bool
same_bytes [] [] = true
same_bytes [] (b ∷ bs) = false
same_bytes (a ∷ rest) [] = false
same_bytes (a ∷ rest) (b ∷ bs) = cond (eqb a b) (same_bytes rest bs) false

-- whether the bytes of a string are those
unfoldable pub text_is : Section → List ℕ → Str → Bool
text_is strs text t = same_bytes (take t.len (drop t.start strs)) text

-- the names for which a test holds, in order; the first test that is refused breaks the list off
unfoldable pub matching : (ℕ → Outcome Bool) → List ℕ → Listing ℕ
matching test [] = ended
matching test (n ∷ ns) = or_broken (test n) λ holds. cond holds (item n (matching test ns)) (matching test ns)

-- a section with its strings, in its byte order, and the name that is asked for
module _ (order : RunTimeEndian) (s strs : Section) (text : List ℕ) where
  -- whether the string of a name is that name; a string that cannot be read is refused
  unfoldable pub name_matches : Parts → ℕ → Outcome Bool
  name_matches p name = do
    t ← name_string_in order s strs p (record { 0 = name })
    answered (text_is strs text t)
