use Rattle.std.proofs.Common.{◌≡◌, ◌<◌, ℕ}
use Rattle.std.specs.Prelude.{slice_index_or}
use Rattle.fru_area.specs.Names.{name_text}
use Rattle.fru_area.specs.declared.name.FieldName.TheVariants.{ChassisType}
use Rattle.fru_area.proofs.name.read_fixed.Given as goal

abbrev pub invariant-loop-name : goal.invariant-loop-name
invariant-loop-name l = (k : ℕ) → k < l.name-index → name_text (slice_index_or l.name-items k ChassisType) ≡ l.text → ⊥
