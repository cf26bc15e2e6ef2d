-- The boards of one moment, by a scan of the bytes of all FRUs that are present.
use Rattle.std.specs.Prelude.{ℕ, List, [], map, length, find, Option, option_map, slice_get}
use Rattle.std.specs.Option.{unwrap_or}
use Rattle.bmc_base.specs.Places.{Place}
use Rattle.fru_area.specs.declared.field.Field.{Field}
use Rattle.probe_lang.specs.Sights.{Sight}
use Rattle.cfg_json.specs.Configs.{Config}
use Rattle.match_rows.specs.Matching.{sight_of}
use Rattle.inventory.specs.Boards.{boards_in}
use Rattle.inventory.specs.Lists.{keys_of}
use Rattle.inventory.specs.declared.board.BoardKey.{BoardKey}
use Rattle.bmc_machine.specs.Standings.{Fru, fields_of, is_at, Standing}

-- what the FRUs show that are present: each pattern is matched against each record
abbrev pub sights_of : List Config → List Fru → List Sight
sights_of configs frus = map (λ fru. sight_of configs fru.place (fields_of fru)) frus

abbrev pub sights : Standing → List Sight
sights now = sights_of now.configs now.frus

-- the boards of the configuration with this number, from 0, each by its place; there are none where no configuration has it
unfoldable pub boards : Standing → ℕ → List (Option Place)
boards now number = boards_in now.configs (sights now) number

-- the keys of the boards of one moment, by configuration and place
unfoldable pub board_keys : Standing → List BoardKey
board_keys now = keys_of (length now.configs) (boards now)

-- the fields of the FRU at a place, read from its bytes
abbrev pub fields_at : List Fru → Place → Option (List Field)
fields_at frus place = option_map fields_of (find (is_at place) frus)

-- the name of the configuration with this number
abbrev pub name_of : List Config → ℕ → List ℕ
name_of configs number = unwrap_or (option_map (λ config. config.name) (slice_get configs number)) []
