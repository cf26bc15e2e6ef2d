-- What `set` asks for, and what it gives.
use Rattle.std.specs.Prelude.{◌≡◌, ℕ, ◌≤◌, bytes_eq, true, List, [], map, length, Some, count_by}
use Rattle.std.specs.List.{All, list_any}
use Rattle.ctl_face.specs.declared.kind.Kind.{Kind}
use Rattle.ctl_face.specs.Kinds.{kind_eq}
use Rattle.ctl_face.specs.Seen.{Seen}
use Rattle.fan_zone.specs.Live.{id_of, LiveControl, controls, LiveZone, zone_id, zones, fan_id, fans}
use Rattle.fan_zone.specs.Boxes.{box_at, kinds_of}
use Rattle.cfg_json.specs.Configs.{IsValidZone}
use Rattle.cfg_json.specs.declared.item.Item.{Item}
use Rattle.fan_zone.specs.declared.held.Held.{Held}
use Rattle.fan_zone.specs.declared.rows.ZoneRow.{ZoneRow}
use Rattle.live_sensors.specs.Sensors.{LiveSensors}
use Rattle.fan_zone.specs.Ticks.{ZonesView}
use Rattle.fan_zone.specs.Sound.{HaveOwnIds, most_zones, most_fans}
use Rattle.fan_zone.specs.Sets.{Seating, find_held, kept_numbers, cleared, seat_all}
use Rattle.fan_zone.specs.SetRows.{plan_of, zone_row_of, fan_plan_of, fan_row_of}
use Rattle.fan_zone.specs.Seats.{IsValidControl, is_control_of}

-- a controller that was there has the setting that its box holds
abbrev pub HasSameSetting : ZonesView → LiveControl → Type 0
HasSameSetting old control =
    (held : Held) → find_held control.id old.held ≡ Some held → (box_at old.bank held.number).setting ≡ Some control.item.setting

-- the zone of a controller is among the zones
abbrev pub HasZone : List Item → LiveControl → Type 0
HasZone live control = list_any (λ (zone : LiveZone). bytes_eq zone.name control.item.zone) (zones live) ≡ true

-- what `set` asks for: there are no more controllers than boxes, of each kind too, and no more zones and fans than there is room for; controllers,
-- zones and fans have ids of their own; controllers have valid settings and few inputs, and stand in one of the zones; the numbers of zones are in
-- their ranges; and a controller that was there has the setting that it had
pub record CanSet (old : ZonesView) (live : List Item) : Type 0 where
  pub few : length (controls live) ≤ length (kinds_of old.bank)
  pub room : (kind : Kind) → count_by (is_control_of kind) (controls live) ≤ count_by (λ (each : Kind). kind_eq each kind) (kinds_of old.bank)
  pub few_zones : length (zones live) ≤ most_zones
  pub few_fans : length (fans live) ≤ most_fans
  pub ids : HaveOwnIds id_of (controls live)
  pub zone_ids : HaveOwnIds zone_id (zones live)
  pub fan_ids : HaveOwnIds fan_id (fans live)
  pub valid : All IsValidControl (controls live)
  pub settings : All (λ (zone : LiveZone). IsValidZone zone.setting) (zones live)
  pub placed : All (HasZone live) (controls live)
  pub same : All (HasSameSetting old) (controls live)

-- the zones as they were: no controller sits, and only the boxes that are kept stay loaded
abbrev pub before : List Held → List Seen → List Item → Seating
before held bank live = record { held = []; taken = kept_numbers held (controls live); bank = cleared (kept_numbers held (controls live)) bank }

abbrev pub zone_rows_of : ZonesView → List Item → List ZoneRow
zone_rows_of old live = map (zone_row_of old.zone_plans old.zone_rows) (zones live)

abbrev pub seating_of : ZonesView → List Item → LiveSensors → Seating
seating_of old live sensors = seat_all (zone_rows_of old live) sensors old.held (before old.held old.bank live) (controls live)

abbrev pub set_to : List Item → LiveSensors → ZonesView → ZonesView
set_to live sensors old = record {
  bank = (seating_of old live sensors).bank;
  held = (seating_of old live sensors).held;
  zone_plans = map plan_of (zones live);
  zone_rows = zone_rows_of old live;
  fan_plans = map (fan_plan_of (controls live)) (fans live);
  fan_rows = map (fan_row_of old.fan_plans old.fan_rows) (fans live);
}

-- room for n elements, in a list and in its empty spare
pub record HasRoom {A : Type 0} (spare : List A) (n room spare_room : ℕ) : Type 0 where
  pub empty : spare ≡ []
  pub now : n ≤ room
  pub next : n ≤ spare_room
