-- What is true of all zones.
use Rattle.std.specs.Prelude.{◌≡◌, ◌<◌, ◌≤◌, length, IsSome, List, false, [], ◌∷◌, map, ℕ}
use Rattle.fan_zone.specs.Sets.{is_taken}
use Rattle.std.specs.List.{All, IsDistinct}
use Rattle.std.specs.Option.{ForSome}
use Rattle.ctl_face.specs.Ranges.{IsMilli}
use Rattle.ctl_face.specs.Seen.{Seen, unloaded}
use Rattle.ctl_face.specs.Kinds.{kind_of}
use Rattle.fan_zone.specs.Boxes.{box_at}
use Rattle.fan_zone.specs.declared.held.Held.{Held}
use Rattle.fan_zone.specs.declared.rows.ZonePlan.{ZonePlan}
use Rattle.fan_zone.specs.declared.rows.ZoneRow.{ZoneRow}
use Rattle.fan_zone.specs.declared.rows.FanPlan.{FanPlan}
use Rattle.cfg_json.specs.declared.item.ItemId.{ItemId}
use Rattle.fan_zone.specs.Live.{id_eq}
use Rattle.fan_zone.specs.Passes.{thermal_setpoint}
use Rattle.fan_zone.specs.Ticks.{ZonesView}

-- a controller has a box, which is loaded
pub record IsSeated (bank : List Seen) (held : Held) : Type 0 where
  pub within : held.number < length bank
  pub loaded : IsSome (box_at bank held.number).setting

abbrev pub AreSeated : List Seen → List Held → Type 0
AreSeated bank held = All (λ (one : Held). IsSeated bank one) held

-- the last output of a box is in range
abbrev pub HasSmallOutput : Seen → Type 0
HasSmallOutput seen = ForSome seen.state.output IsMilli

abbrev pub AreSmall : List Seen → Type 0
AreSmall bank = All HasSmallOutput bank

abbrev pub HasSmallSetpoint : Held → Type 0
HasSmallSetpoint held = ForSome (thermal_setpoint held.role) (λ setpoint. IsMilli setpoint.0)

abbrev pub AreInZones : List ZoneRow → List Held → Type 0
AreInZones rows held = All (λ (one : Held). one.zone < length rows) held

abbrev pub AreSmallPlans : List ZonePlan → Type 0
AreSmallPlans plans = All (λ (plan : ZonePlan). IsMilli plan.setting.min_thermal.0) plans

-- a loaded box is of the kind of its setting
abbrev pub IsTyped : Seen → Type 0
IsTyped seen = ForSome seen.setting (λ setting. kind_of setting ≡ seen.kind)

abbrev pub number_of : Held → ℕ
number_of held = held.number

-- no number twice
abbrev pub Differ : List ℕ → Type 0
Differ [] = Unit {0}
Differ (number ∷ more) = (is_taken more number ≡ false) × Differ more

-- each box that has none of these numbers is unloaded
abbrev pub AreSpare : List Seen → List ℕ → Type 0
AreSpare bank numbers = (number : ℕ) → is_taken numbers number ≡ false → box_at bank number ≡ unloaded (box_at bank number).kind

-- no id twice
abbrev pub HaveOwnIds : {A : Type 0} → (A → ItemId) → List A → Type 0
HaveOwnIds id_in list = IsDistinct id_eq (map id_in list)

abbrev pub held_id : Held → ItemId
held_id held = held.id

abbrev pub zone_plan_id : ZonePlan → ItemId
zone_plan_id plan = plan.id

abbrev pub fan_plan_id : FanPlan → ItemId
fan_plan_id plan = plan.id

-- the most zones, and the most fans
abbrev pub most_zones : ℕ
most_zones = 32

abbrev pub most_fans : ℕ
most_fans = 128

pub record IsSound (view : ZonesView) : Type 0 where
  pub seats : AreSeated view.bank view.held
  pub outputs : AreSmall view.bank
  pub typed : All IsTyped view.bank
  pub setpoints : All HasSmallSetpoint view.held
  pub apart : Differ (map number_of view.held)
  pub spare : AreSpare view.bank (map number_of view.held)
  pub zones : AreInZones view.zone_rows view.held
  pub plans : length view.zone_plans ≡ length view.zone_rows
  pub lows : AreSmallPlans view.zone_plans
  pub fans : length view.fan_plans ≡ length view.fan_rows
  pub few_zones : length view.zone_rows ≤ most_zones
  pub few_fans : length view.fan_rows ≤ most_fans
  pub held_ids : HaveOwnIds held_id view.held
  pub zone_ids : HaveOwnIds zone_plan_id view.zone_plans
  pub fan_ids : HaveOwnIds fan_plan_id view.fan_plans

-- the setpoint that is shown is in range
abbrev pub HasSmallRow : ZoneRow → Type 0
HasSmallRow row = ForSome row.setpoint (λ setpoint. IsMilli setpoint.0)

abbrev pub AreSmallRows : List ZoneRow → Type 0
AreSmallRows rows = All HasSmallRow rows
