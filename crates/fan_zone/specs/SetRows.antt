-- What a new list of live items makes of the rows.
use Rattle.std.specs.Prelude.{ℕ, suc, bytes_eq, Bool, true, false, ◌&&◌, if◌then◌else◌, List, [], ◌∷◌, Option, Some, None}
use Rattle.std.specs.List.{list_any}
use Rattle.std.specs.Option.{is_none}
use Rattle.cfg_json.specs.declared.item.ItemId.{ItemId}
use Rattle.cfg_json.specs.declared.item.ControlItem.{ControlItem}
use Rattle.cfg_json.specs.declared.item.ItemPart.{ItemPart}
use Rattle.cfg_json.specs.declared.item.ItemPart.TheVariants as parts
use Rattle.fan_zone.specs.Live.{LiveControl, LiveZone, LiveFan, id_eq}
use Rattle.fan_zone.specs.declared.rows.ZonePlan.{ZonePlan}
use Rattle.fan_zone.specs.declared.rows.ZoneRow.{ZoneRow}
use Rattle.fan_zone.specs.declared.rows.FanPlan.{FanPlan}
use Rattle.fan_zone.specs.declared.rows.FanRow.{FanRow}
use Rattle.fan_zone.specs.Passes.{thermal_setpoint}
use Rattle.fan_zone.specs.Sets.{role_of}

abbrev pub plan_of : LiveZone → ZonePlan
plan_of zone = record { id = zone.id; setting = zone.setting }

-- what the zone with this id showed
abbrev pub find_zone : ItemId → List ZonePlan → List ZoneRow → Option ZoneRow
find_zone id [] rows = None
find_zone id (plan ∷ plans) [] = None
find_zone id (plan ∷ plans) (row ∷ rows) = if id_eq plan.id id then Some row else find_zone id plans rows

abbrev pub kept_zone : List ℕ → Option ZoneRow → ZoneRow
kept_zone name None = record { name = name; failsafe = false; setpoint = None }
kept_zone name (Some row) = record { name = name; failsafe = row.failsafe; setpoint = row.setpoint }

-- a zone shows what it showed; a new one is normal and has no setpoint
abbrev pub zone_row_of : List ZonePlan → List ZoneRow → LiveZone → ZoneRow
zone_row_of plans rows zone = kept_zone zone.name (find_zone zone.id plans rows)

-- whether an item is a fan
abbrev pub is_fan : ItemPart → Bool
is_fan parts.Fan = true
is_fan (parts.Zone setting) = false
is_fan (parts.Control item) = false
is_fan (parts.Sensor sensor) = false
is_fan (parts.Mux part) = false
is_fan parts.Passive = false

-- whether a controller commands fans
abbrev pub commands_fans : ControlItem → Bool
commands_fans item = is_none (thermal_setpoint (role_of item.setting))

-- whether a controller commands fans, and names this one as an output
abbrev pub outputs_to : List ℕ → ControlItem → Bool
outputs_to name item = commands_fans item && list_any (bytes_eq name) item.outputs

-- the first controller that does, the first of them being n
abbrev pub first_from : ℕ → List ℕ → List LiveControl → Option ℕ
first_from n name [] = None
first_from n name (control ∷ more) = if outputs_to name control.item then Some n else first_from (suc n) name more

abbrev pub fan_plan_of : List LiveControl → LiveFan → FanPlan
fan_plan_of live fan = record { id = fan.id; holder = first_from 0 fan.name live }

abbrev pub find_fan : ItemId → List FanPlan → List FanRow → Option FanRow
find_fan id [] rows = None
find_fan id (plan ∷ plans) [] = None
find_fan id (plan ∷ plans) (row ∷ rows) = if id_eq plan.id id then Some row else find_fan id plans rows

abbrev pub kept_fan : List ℕ → Option FanRow → FanRow
kept_fan name None = record { name = name; duty = None }
kept_fan name (Some row) = record { name = name; duty = row.duty }

-- a fan shows what it showed; a new one has no duty
abbrev pub fan_row_of : List FanPlan → List FanRow → LiveFan → FanRow
fan_row_of plans rows fan = kept_fan fan.name (find_fan fan.id plans rows)
