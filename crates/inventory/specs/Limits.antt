-- The limits of an inventory.
use Rattle.std.specs.Prelude.{ℕ, ◌≡◌, ◌+◌, ◌-◌, nat_lt, if◌then◌else◌, List, length, sum_by, Option, Some, None, option_map, slice_get, Result, Ok, Err}
use Rattle.std.specs.Option.{unwrap_or}
use Rattle.cfg_json.specs.Configs.{Config, counts_of}
use Rattle.cfg_json.specs.declared.counts.Counts.{Counts}
use Rattle.inventory.specs.declared.board.BoardKey.{BoardKey}
use Rattle.inventory.specs.declared.limits.Totals.{Totals}
use Rattle.inventory.specs.declared.fault.InventoryFault.{InventoryFault}
use Rattle.inventory.specs.declared.fault.InventoryFault.TheVariants.{BoardLimit, SensorLimit, ZoneLimit, FanLimit, PidLimit, StepLimit}

-- the most boards, and the most exposes of boards of each kind
abbrev pub most_boards : ℕ
most_boards = 1024

abbrev pub most_sensors : ℕ
most_sensors = 4096

abbrev pub most_zones : ℕ
most_zones = 32

abbrev pub most_fans : ℕ
most_fans = 128

abbrev pub most_pids : ℕ
most_pids = 128

abbrev pub most_steps : ℕ
most_steps = 64

-- the counts of no exposes
abbrev pub no_counts : Counts
no_counts = record { sensors = 0; zones = 0; fans = 0; pids = 0; steps = 0 }

-- how many exposes of each kind a board has, whether they are rendered or not
abbrev pub board_counts : List Config → BoardKey → Counts
board_counts configs key =
    unwrap_or (option_map (λ (config : Config). counts_of config.exposes) (slice_get configs key.config)) no_counts

-- how many of the exposes of boards are of each kind
abbrev pub sensors_of : List Config → List BoardKey → ℕ
sensors_of configs keys = sum_by (λ key. (board_counts configs key).sensors) keys

abbrev pub zones_of : List Config → List BoardKey → ℕ
zones_of configs keys = sum_by (λ key. (board_counts configs key).zones) keys

abbrev pub fans_of : List Config → List BoardKey → ℕ
fans_of configs keys = sum_by (λ key. (board_counts configs key).fans) keys

abbrev pub pids_of : List Config → List BoardKey → ℕ
pids_of configs keys = sum_by (λ key. (board_counts configs key).pids) keys

abbrev pub steps_of : List Config → List BoardKey → ℕ
steps_of configs keys = sum_by (λ key. (board_counts configs key).steps) keys

-- the totals of boards
abbrev pub totals_of : List Config → List BoardKey → Totals
totals_of configs keys = record {
  boards = length keys;
  sensors = sensors_of configs keys;
  zones = zones_of configs keys;
  fans = fans_of configs keys;
  pids = pids_of configs keys;
  steps = steps_of configs keys;
}

-- the totals of no boards
abbrev pub no_totals : Totals
no_totals = record { boards = 0; sensors = 0; zones = 0; fans = 0; pids = 0; steps = 0 }

-- totals where some boards go and others come
abbrev pub totals_after : List Config → Totals → List BoardKey → List BoardKey → Totals
totals_after configs totals gone new = record {
  boards = totals.boards - length gone + length new;
  sensors = totals.sensors - sensors_of configs gone + sensors_of configs new;
  zones = totals.zones - zones_of configs gone + zones_of configs new;
  fans = totals.fans - fans_of configs gone + fans_of configs new;
  pids = totals.pids - pids_of configs gone + pids_of configs new;
  steps = totals.steps - steps_of configs gone + steps_of configs new;
}

-- the first limit that totals pass
abbrev pub limit_of : Totals → Option InventoryFault
limit_of totals =
    if nat_lt most_boards totals.boards then Some BoardLimit
    else if nat_lt most_sensors totals.sensors then Some SensorLimit
    else if nat_lt most_zones totals.zones then Some ZoneLimit
    else if nat_lt most_fans totals.fans then Some FanLimit
    else if nat_lt most_pids totals.pids then Some PidLimit
    else if nat_lt most_steps totals.steps then Some StepLimit
    else None

-- the first limit that these boards pass
unfoldable pub passed_limit : List Config → List BoardKey → Option InventoryFault
passed_limit configs keys = limit_of (totals_of configs keys)

-- these totals are answered, which pass no limit, or the first limit that they pass
abbrev pub GivesTotals : Result Totals InventoryFault → Totals → Type 0
GivesTotals (Ok answer) totals = (answer ≡ totals) × (limit_of totals ≡ None)
GivesTotals (Err fault) totals = limit_of totals ≡ Some fault
