-- What a step makes of the items.
use Rattle.std.specs.Prelude.{◌≡◌, List, Option}
use Rattle.bmc_base.specs.Places.{Place}
use Rattle.cfg_json.specs.Configs.{Config}
use Rattle.cfg_json.specs.declared.item.Item.{Item}
use Rattle.inventory.specs.Differences.{Moment}
use Rattle.inventory.specs.Follows.{kept_with, AreKeysAscending, Follows}
use Rattle.inventory.specs.Items.{entry_fields, items_less, live}
use Rattle.inventory.specs.Naming.{naming_items}
use Rattle.inventory.specs.declared.changed.Difference.{Difference}
use Rattle.inventory.specs.declared.stock.ItemDifference.{ItemDifference}

-- These items follow those before: boards go, and boards come with what they expose at a moment, where they are kept behind the others.
pub record Continues (configs : List Config) (kept : List (List (Option Place))) (difference : Difference) (moment : Moment) (before next : List Item)
    : Type 0 where
  pub order : AreKeysAscending difference.new_boards
  pub follows : Follows difference.gone_boards difference.new_boards before
      (naming_items configs (kept_with kept difference.new_boards) (entry_fields moment.entries) difference.new_boards) next

-- the live items that go and those that come are told
pub record TellsItems (before : List Item) (items : ItemDifference) (next : List Item) : Type 0 where
  pub gone_are : items.gone ≡ items_less (live before) (live next)
  pub new_are : items.new ≡ items_less (live next) (live before)
