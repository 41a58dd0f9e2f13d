-- What only the code needs: what single functions of it answer or leave. A reader of the other files need not
-- know these.
use Rattle.std.specs.Prelude.{◌≡◌, ℕ, cond, List, [], ◌∷◌, ltb}
use Rattle.reader.specs.Outcome.{Outcome, answered, ◌>>◌}
use Rattle.reader.specs.declared.error.Error.TheVariants.{UnexpectedEof}
use Rattle.reader.specs.Errors.{refusal}
use Rattle.index.specs.declared.layout.Parts.{Parts}
use Rattle.index.specs.Layout.{fitted}
use Rattle.reader.specs.Parts.{Section}

-- `cut_parts` by comparing places, where the index ends inside the section (`cut_inside`): each place is
-- compared with the end, and the place before the first that lies past it is refused
unfoldable pub refuse_past : ℕ → List ℕ → Outcome (Unit {0})
refuse_past end [] = answered tt
refuse_past end (a ∷ []) = answered tt
refuse_past end (a ∷ b ∷ rest) = cond (ltb end b) (refusal (UnexpectedEof a)) (refuse_past end (b ∷ rest))

unfoldable pub parts_inside : Parts → Outcome Parts
parts_inside p = do
  refuse_past p.end
      (p.compile_unit_list
      ∷ p.local_type_unit_list
      ∷ p.foreign_type_unit_list
      ∷ p.bucket_data
      ∷ p.hash_table_data
      ∷ p.name_table_data
      ∷ p.entry_offset_data
      ∷ p.abbreviation_table
      ∷ p.entry_pool
      ∷ [])
  answered p

-- these are the parts of an index that fits: what an inner function requires that reads a hash table at bare
-- places
abbrev pub PartsFit : Section → Parts → Type 0
PartsFit s p = answered p ≡ fitted s p.index
