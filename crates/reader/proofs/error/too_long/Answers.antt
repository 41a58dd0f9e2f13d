-- `reader::error::too_long` meets its contract: the constant is the definition's.
use mathlib.Core.Path.{refl}
use Rattle.reader.specs.Errors.{longest}
use Rattle.reader.proofs.error.too_long.Goals as goal

pub returns : goal.returns
unfolding longest
returns c = refl
