-- The names of items.
use Rattle.std.specs.Prelude.{ℕ, Bool, List, filter, map, Some}
use Rattle.std.specs.Option.{option_eq}
use Rattle.cfg_json.specs.declared.item.Item.{Item}
use Rattle.inventory.specs.declared.family.Family.{Family}
use Rattle.inventory.specs.Items.{family_of, family_eq}

-- whether an item is of a family
abbrev pub is_of : Family → Item → Bool
is_of family item = option_eq family_eq (family_of item.part) (Some family)

-- the names of the items of a family
abbrev pub names_of : Family → List Item → List (List ℕ)
names_of family items = map (λ (item : Item). item.name) (filter (is_of family) items)
