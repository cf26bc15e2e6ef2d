-- The boards and the exposes whose items may be live.
use Rattle.std.specs.Prelude.{ℕ, ◌+◌, ◌==◌, Bool, true, false, not, if◌then◌else◌, List, filter, Option, None}
use Rattle.std.specs.List.{enumerate_from, filter_map, flat_map}
use Rattle.bmc_base.specs.Places.{Place}
use Rattle.fru_area.specs.declared.field.Field.{Field}
use Rattle.cfg_json.specs.Configs.{Config}
use Rattle.cfg_json.specs.declared.counts.Counts.{Counts}
use Rattle.cfg_json.specs.declared.expose.Body.{Body}
use Rattle.cfg_json.specs.declared.expose.Body.TheVariants as bodies
use Rattle.cfg_json.specs.declared.expose.Expose.{Expose}
use Rattle.cfg_json.specs.declared.item.Item.{Item}
use Rattle.inventory.specs.declared.board.Board.{Board}
use Rattle.inventory.specs.declared.board.BoardKey.{BoardKey}
use Rattle.inventory.specs.Items.{board_fields, exposes_of, rendered_item}
use Rattle.inventory.specs.Limits.{board_counts}
use Rattle.inventory.specs.Lists.{board_list}

-- whether there are exposes among these that are of a family, or controllers
abbrev pub has_naming : Counts → Bool
has_naming counts = not (counts.sensors + counts.zones + counts.fans + counts.pids + counts.steps == 0)

-- whether a board is naming: it has such exposes
abbrev pub is_naming : List Config → BoardKey → Bool
is_naming configs key = has_naming (board_counts configs key)

-- the boards that are naming
abbrev pub naming : List Config → List Board → List Board
naming configs boards = filter (λ (board : Board). is_naming configs board.key) boards

-- whether what a body is at a board may be live: it is of a family, or a controller
abbrev pub may_be_live : Body → Bool
may_be_live (bodies.Sensor part) = true
may_be_live bodies.Fan = true
may_be_live (bodies.Zone setting) = true
may_be_live (bodies.Control part) = true
may_be_live (bodies.Mux part) = false
may_be_live bodies.Passive = false

-- the item of an expose, by its position, at a board with these fields, if it may be live
abbrev pub named_item : Board → Option (List Field) → ℕ × Expose → Option Item
named_item board fields (position, expose) = if may_be_live expose.body then rendered_item board fields (position, expose) else None

-- the items of these exposes that may be live
abbrev pub named_among : Board → Option (List Field) → List Expose → List Item
named_among board fields exposes = filter_map (named_item board fields) (enumerate_from 0 exposes)

-- the items of a board that may be live
abbrev pub named_items : List Config → (Place → Option (List Field)) → Board → List Item
named_items configs fields_at board = named_among board (board_fields fields_at board) (exposes_of configs board.key.config)

-- those of boards
abbrev pub all_named : List Config → (Place → Option (List Field)) → List Board → List Item
all_named configs fields_at boards = flat_map (named_items configs fields_at) boards

-- the items that may be live of the naming boards with these keys, where these boards are kept and each place has these fields
abbrev pub naming_items : List Config → (ℕ → List (Option Place)) → (Place → Option (List Field)) → List BoardKey → List Item
naming_items configs kept fields_at keys = all_named configs fields_at (naming configs (board_list kept keys))
