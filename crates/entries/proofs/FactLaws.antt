-- Laws of the five facts: each is what the first attribute that one pass kept for its name says.
use Prim.Native.Nat.{ℕ}
use mathlib.Core.Path.{◌≡◌}
use mathlib.Core.List.{List}
use Rattle.reader.specs.Outcome.{◌>>=◌}
use Rattle.reader.proofs.OutcomeLaws.{bind_same}
use Rattle.index.specs.Layout.{fitted}
use Rattle.reader.specs.declared.endianity.RunTimeEndian.{RunTimeEndian}
use Rattle.reader.specs.declared.common.NameEntryOffset.{NameEntryOffset}
use Rattle.index.specs.declared.layout.NameIndex.{NameIndex}
use Rattle.attributes.specs.Attributes.{facts}
use Rattle.attributes.specs.Meaning.{compile_unit_of, type_unit_of, die_offset_of, parent_of, type_hash_of}
use Rattle.entries.specs.Inner.{whole_entry}
use Rattle.entries.specs.Facts.{fact_of, entry_compile_unit, entry_type_unit, entry_die_offset, entry_parent, entry_type_hash}
use Rattle.entries.proofs.EntryLaws.{fact_step}

module _ (order : RunTimeEndian) (s : List ℕ) (i : NameIndex) (offset : NameEntryOffset) where
  pub compile_unit_step : entry_compile_unit order s i offset ≡ (fitted s i >>= λ p. whole_entry order s p offset >>= λ w. compile_unit_of order s p w.facts.compile_unit)
  unfolding entry_compile_unit fact_of facts
  compile_unit_step = bind_same (fitted s i) _ _ λ p fits. fact_step order s p offset λ f. compile_unit_of order s p f.compile_unit

  pub type_unit_step : entry_type_unit order s i offset ≡ (fitted s i >>= λ p. whole_entry order s p offset >>= λ w. type_unit_of order s p w.facts.type_unit)
  unfolding entry_type_unit fact_of facts
  type_unit_step = bind_same (fitted s i) _ _ λ p fits. fact_step order s p offset λ f. type_unit_of order s p f.type_unit

  pub die_offset_step : entry_die_offset order s i offset ≡ (fitted s i >>= λ p. whole_entry order s p offset >>= λ w. die_offset_of w.facts.die_offset)
  unfolding entry_die_offset fact_of facts
  die_offset_step = bind_same (fitted s i) _ _ λ p fits. fact_step order s p offset λ f. die_offset_of f.die_offset

  pub parent_step : entry_parent order s i offset ≡ (fitted s i >>= λ p. whole_entry order s p offset >>= λ w. parent_of w.facts.parent)
  unfolding entry_parent fact_of facts
  parent_step = bind_same (fitted s i) _ _ λ p fits. fact_step order s p offset λ f. parent_of f.parent

  pub type_hash_step : entry_type_hash order s i offset ≡ (fitted s i >>= λ p. whole_entry order s p offset >>= λ w. type_hash_of w.facts.type_hash)
  unfolding entry_type_hash fact_of facts
  type_hash_step = bind_same (fitted s i) _ _ λ p fits. fact_step order s p offset λ f. type_hash_of f.type_hash
