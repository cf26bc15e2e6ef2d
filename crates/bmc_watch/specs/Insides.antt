-- What is seen of a state, and what holds inside.
use Rattle.std.specs.Prelude.{ℕ, ◌≡◌, ◌≤◌, true, ◌||◌, ◌==◌, List, map, length, Option, None, vec_capacity}
use Rattle.bmc_base.specs.Places.{Place}
use Rattle.probe_lang.specs.Sights.{entry_sight}
use Rattle.probe_lang.specs.declared.rows.Entry.{Entry}
use Rattle.cfg_json.specs.Configs.{Config}
use Rattle.fru_rows.specs.Idle.{busy}
use Rattle.found_set.specs.Rows.{row_of}
use Rattle.inventory.specs.Boards.{rules_of, boards_in, has_board}
use Rattle.inventory.specs.Indexes.{kept_of}
use Rattle.inventory.specs.Items.{entry_fields}
use Rattle.inventory.specs.Limits.{limit_of, totals_of}
use Rattle.inventory.specs.Lists.{keys_of}
use Rattle.inventory.specs.Naming.{naming_items}
use Rattle.inventory.specs.declared.limits.Totals.{Totals}
use Rattle.cfg_json.specs.declared.item.Item.{Item}
use Rattle.bmc_watch.specs.Readings.{most_changes}
use Rattle.bmc_watch.specs.Watches.{WatchView}
use Rattle.bmc_watch.specs.declared.watch.Watch.TheInside.{Inside}

abbrev pub view_of : {L : Type 0} → Inside L → WatchView
view_of a = record {
  configs = a.shelf;
  entries = a.rows.entries;
  plugged = a.plugged;
  kept = a.keep.kept;
  changes = a.changes.items;
}

-- The totals are those of the boards of these FRUs, which pass no limit; the inventory has what they expose that may be live; and each board
-- is kept. FRUs that are idle have no boards.
pub record IsStocked (configs : List Config) (entries : List Entry) (kept : List (List (Option Place))) (totals : Totals) (inventory : List Item)
    : Type 0 where
  pub counted : totals ≡ totals_of configs (keys_of (length configs) (boards_in configs (map entry_sight entries)))
  pub items : inventory
      ≡ naming_items configs (kept_of kept) (entry_fields (busy entries)) (keys_of (length configs) (boards_in configs (map entry_sight entries)))
  pub holds : (number : ℕ) (place : Option Place) → has_board (boards_in configs (map entry_sight entries) number) place ≡ true
      → has_board (kept_of kept number) place ≡ true
  pub fits : limit_of totals ≡ None

-- the found set has a rule for each configuration and a row for each FRU with hits or channels, as the others change nothing there; and no
-- FRU is present where none was ever plugged; and there is room for the changes of a reading
pub record IsSound {L : Type 0} (a : Inside L) : Type 0 where
  pub rules : a.set.rules ≡ rules_of a.shelf
  pub rows : a.set.rows ≡ map row_of (busy a.rows.entries)
  pub none : (a.plugged || (length a.rows.entries == 0)) ≡ true
  pub stock : IsStocked a.shelf a.rows.entries a.keep.kept a.totals a.stock.items
  pub room : most_changes ≤ vec_capacity a.changes
