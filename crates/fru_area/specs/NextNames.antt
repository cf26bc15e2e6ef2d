-- The name of the next field of an area.
use Rattle.std.specs.Prelude.{ℕ, ◌+◌, ◌≡◌, List, [], ◌∷◌}
use Rattle.fru_area.specs.declared.area.NextName.{NextName}
use Rattle.fru_area.specs.declared.fault.Area.{Area}
use Rattle.fru_area.specs.declared.name.FieldName.{FieldName}
use Rattle.fru_area.specs.declared.name.FieldName.TheVariants.{Custom}

-- a field gets this name, and later fields those that are left
abbrev pub IsNext : Area → List FieldName → ℕ → NextName → Type 0
IsNext area (name ∷ names) number next = (next.name ≡ name) × (next.later.now ≡ names) × (next.number ≡ number)
IsNext area [] number next = (next.name ≡ Custom area number) × (next.later.now ≡ []) × (next.number ≡ number + 1)
