-- What `set` means: who keeps what, who gets what, and what is unloaded.
use Rattle.std.specs.Prelude.{◌≡◌, ℕ, false, List, [], ◌∷◌, map, Some, None}
use Rattle.ctl_face.specs.declared.setting.Setting.{Setting}
use Rattle.ctl_face.specs.Seen.{Seen, loaded, unloaded}
use Rattle.ctl_face.specs.Kinds.{kind_of}
use Rattle.fan_zone.specs.Live.{LiveControl, controls, zones, fans}
use Rattle.fan_zone.specs.Boxes.{box_at, kinds_of}
use Rattle.cfg_json.specs.declared.item.Item.{Item}
use Rattle.fan_zone.specs.declared.held.Held.{Held}
use Rattle.fan_zone.specs.declared.held.Seat.{Seat}
use Rattle.fan_zone.specs.declared.rows.ZoneRow.{ZoneRow}
use Rattle.live_sensors.specs.Sensors.{LiveSensors}
use Rattle.fan_zone.specs.Ticks.{ZonesView}
use Rattle.fan_zone.specs.Sets.{seat_of, held_of, kept_seat, is_taken}
use Rattle.fan_zone.specs.Sound.{Differ, number_of}
use Rattle.fan_zone.specs.SetRows.{plan_of, zone_row_of, fan_plan_of, fan_row_of}

-- a box of the kind of a setting, loaded with it, in the blank state
abbrev pub fresh_box : Setting → Seen
fresh_box setting = loaded (unloaded (kind_of setting)) setting

-- a live controller and how it is held: the names of the item are numbers; one that was there keeps its box with its state, and its age; a new
-- one has a box of its kind, loaded and blank, and its run begins
pub record Sits (rows : List ZoneRow) (sensors : LiveSensors) (old : List Held) (start bank : List Seen) (control : LiveControl) (held : Held) : Type 0 where
  pub record_is : held ≡ held_of rows sensors control (seat_of held)
  pub kept : (seat : Seat) → kept_seat old control.id ≡ Some seat → (seat_of held ≡ seat) × (box_at bank held.number ≡ box_at start held.number)
  pub fresh : kept_seat old control.id ≡ None → (held.age ≡ 0) × (box_at bank held.number ≡ fresh_box control.item.setting)

-- this holds of each two that have the same place in their lists
abbrev pub Paired : {A B : Type 0} → (A → B → Type 0) → List A → List B → Type 0
Paired R [] [] = Unit {0}
Paired R [] (y ∷ ys) = ⊥
Paired R (x ∷ xs) [] = ⊥
Paired R (x ∷ xs) (y ∷ ys) = R x y × Paired R xs ys

-- zones and fans are those of the items, and show what they showed; each controller is held as above; no two hold one box; each other box is
-- unloaded; and no box is added, taken away, or of another kind than it was
pub record IsSet (old : ZonesView) (live : List Item) (sensors : LiveSensors) (new : ZonesView) : Type 0 where
  pub zone_plans : new.zone_plans ≡ map plan_of (zones live)
  pub zone_rows : new.zone_rows ≡ map (zone_row_of old.zone_plans old.zone_rows) (zones live)
  pub fan_plans : new.fan_plans ≡ map (fan_plan_of (controls live)) (fans live)
  pub fan_rows : new.fan_rows ≡ map (fan_row_of old.fan_plans old.fan_rows) (fans live)
  pub sit : Paired (Sits new.zone_rows sensors old.held old.bank new.bank) (controls live) new.held
  pub apart : Differ (map number_of new.held)
  pub others : (number : ℕ) → is_taken (map number_of new.held) number ≡ false → box_at new.bank number ≡ unloaded (box_at old.bank number).kind
  pub kinds : kinds_of new.bank ≡ kinds_of old.bank
