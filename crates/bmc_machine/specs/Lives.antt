-- What the sensors of live items show: what came of asking them since they became live.
use Rattle.std.specs.Prelude.{ℕ, ◌≡◌, Bool, bytes_eq, if◌then◌else◌, List, [], ◌∷◌, ◌++◌, Option, option_map, option_and_then}
use Rattle.std.specs.List.{list_any}
use Rattle.cfg_json.specs.declared.item.Item.{Item}
use Rattle.cfg_json.specs.declared.item.ItemId.{ItemId}
use Rattle.inventory.specs.Items.{holder, id_eq}
use Rattle.inventory.specs.declared.family.Family.TheVariants as families
use Rattle.sensor_core.specs.Sensors.{Outcome, Good, Lost, Sensor, sensor_of}
use Rattle.live_sensors.specs.Items.{setting_in}
use Rattle.bmc_machine.specs.Histories.{Step, Start, Configure, Plug, RefusedPlug, Unplug, Read, Lose, Tick, tick_of}
use Rattle.bmc_machine.specs.Indexes.{live_now}

-- whether an item with this id is among these
abbrev pub has_id : List Item → ItemId → Bool
has_id items id = list_any (λ (item : Item). id_eq item.id id) items

-- what a step is to a sensor of this name, at this tick
abbrev pub outcome_of : List ℕ → ℕ → Step → List Outcome
outcome_of name tick (Read other raw) = if bytes_eq name other then Good raw tick ∷ [] else []
outcome_of name tick (Lose other) = if bytes_eq name other then Lost ∷ [] else []
outcome_of name tick (Start options) = []
outcome_of name tick (Configure config) = []
outcome_of name tick (Plug place bytes) = []
outcome_of name tick (RefusedPlug place bytes refusal) = []
outcome_of name tick (Unplug place) = []
outcome_of name tick Tick = []

-- a step is no outcome of any sensor
abbrev pub IsNoOutcome : Step → Type 0
IsNoOutcome step = (name : List ℕ) (tick : ℕ) → outcome_of name tick step ≡ []

-- the outcomes of an item since it became live last, the newest first; the step by which it became live is not among them
unfoldable pub outcomes : Item → List Step → List Outcome
outcomes item [] = []
outcomes item (step ∷ past) =
    if has_id (live_now past) item.id then outcome_of item.name (tick_of (step ∷ past)) step ++ outcomes item past else []

-- what the sensor of a live item shows after a history
abbrev pub item_sensor : List Step → Item → Option Sensor
item_sensor past item = option_map (λ setting. sensor_of setting (outcomes item past)) (setting_in item.part)

-- what the live sensor of a name shows after a history, if there is one
unfoldable pub sensor_now : List Step → List ℕ → Option Sensor
sensor_now past name = option_and_then (item_sensor past) (holder (live_now past) families.Sensor name)
