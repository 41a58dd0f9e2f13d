-- What only the code needs: what single functions of it answer or leave. A reader of the other files need not
-- know these.
use Rattle.std.specs.Prelude.{ℕ}
use Rattle.reader.specs.Outcome.{Outcome, answered, ◌>>=◌}
use Rattle.leb128.specs.Leb128.{leb128}
use Rattle.reader.specs.Parts.{Section}

-- `skip_padding`: the place past the bytes that pad a number beyond its width, of which none has a bit set.
-- They are a number of 0 bits.
unfoldable pub past_padding : Section → ℕ → ℕ → Outcome ℕ
past_padding s at end = do
  r ← leb128 0 s at end
  answered r.next
