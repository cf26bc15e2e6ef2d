-- The parts of `set`, put together.
use Rattle.std.proofs.Common.{◌≡◌, ℕ, List, [], ◌∷◌, length, map, Option, Some, None, refl, ap, ◌∙◌}
use Rattle.std.proofs.lemmas.List.{length-set}
use Rattle.ctl_face.specs.Seen.{Seen, loaded}
use Rattle.ctl_face.specs.Kinds.{kind_of}
use Rattle.fan_zone.specs.Live.{LiveControl, controls, zones, fans}
use Rattle.fan_zone.specs.Boxes.{box_at}
use Rattle.cfg_json.specs.declared.item.Item.{Item}
use Rattle.fan_zone.specs.declared.held.Held.{Held}
use Rattle.fan_zone.specs.declared.held.Seat.{Seat}
use Rattle.fan_zone.specs.declared.rows.ZonePlan.{ZonePlan}
use Rattle.fan_zone.specs.declared.rows.ZoneRow.{ZoneRow}
use Rattle.fan_zone.specs.declared.rows.FanPlan.{FanPlan}
use Rattle.fan_zone.specs.declared.rows.FanRow.{FanRow}
use Rattle.live_sensors.specs.Sensors.{LiveSensors}
use Rattle.fan_zone.specs.Ticks.{ZonesView}
use Rattle.fan_zone.specs.Sets.{Seating, kept_numbers, kept_seat, free, cleared, cleared_box, seated, seated_free, seat_next, seat_all}
use Rattle.fan_zone.specs.SetRows.{plan_of, zone_row_of, fan_plan_of, fan_row_of}
use Rattle.fan_zone.specs.Settings.{before, set_to}
use Rattle.fan_zone.proofs.Numbered.{length-numbered}

-- what the calls of `set` leave
pub record Renews (live : List Item) (sensors : LiveSensors) (old new : ZonesView) : Type 0 where
  pub zone_plans : new.zone_plans ≡ map plan_of (zones live)
  pub zone_rows : new.zone_rows ≡ map (zone_row_of old.zone_plans old.zone_rows) (zones live)
  pub fan_plans : new.fan_plans ≡ map (fan_plan_of (controls live)) (fans live)
  pub fan_rows : new.fan_rows ≡ map (fan_row_of old.fan_plans old.fan_rows) (fans live)
  pub bank : new.bank ≡ (seat_all new.zone_rows sensors old.held (before old.held old.bank live) (controls live)).bank
  pub held : new.held ≡ (seat_all new.zone_rows sensors old.held (before old.held old.bank live) (controls live)).held

abbrev view : List Seen → List Held → List ZonePlan → List ZoneRow → List FanPlan → List FanRow → ZonesView
view bank held zone_plans zone_rows fan_plans fan_rows = record {
  bank = bank;
  held = held;
  zone_plans = zone_plans;
  zone_rows = zone_rows;
  fan_plans =
      fan_plans;
  fan_rows = fan_rows;
}

same_view : (a b : ZonesView) → a.bank ≡ b.bank → a.held ≡ b.held → a.zone_plans ≡ b.zone_plans → a.zone_rows ≡ b.zone_rows → a.fan_plans ≡ b.fan_plans
    → a.fan_rows ≡ b.fan_rows → a ≡ b
same_view a b bank held zone_plans zone_rows fan_plans fan_rows =
    ap (λ (x : List Seen). view x a.held a.zone_plans a.zone_rows a.fan_plans a.fan_rows) bank
    ∙ (ap (λ (x : List Held). view b.bank x a.zone_plans a.zone_rows a.fan_plans a.fan_rows) held
    ∙ (ap (λ (x : List ZonePlan). view b.bank b.held x a.zone_rows a.fan_plans a.fan_rows) zone_plans
    ∙ (ap (λ (x : List ZoneRow). view b.bank b.held b.zone_plans x a.fan_plans a.fan_rows) zone_rows
    ∙ (ap (λ (x : List FanPlan). view b.bank b.held b.zone_plans b.zone_rows x a.fan_rows) fan_plans
    ∙ ap (λ (x : List FanRow). view b.bank b.held b.zone_plans b.zone_rows b.fan_plans x) fan_rows))))

pub set_is : (live : List Item) (sensors : LiveSensors) (old new : ZonesView) → Renews live sensors old new → new ≡ set_to live sensors old
set_is live sensors old new r =
    let seats = λ (rows : List ZoneRow). seat_all rows sensors old.held (before old.held old.bank live) (controls live) in
    same_view new (set_to live sensors old) (r.bank ∙ ap (λ (rows : List ZoneRow). (seats rows).bank) r.zone_rows)
    (r.held ∙ ap (λ (rows : List ZoneRow). (seats rows).held) r.zone_rows) r.zone_plans r.zone_rows r.fan_plans r.fan_rows

length_free : (rows : List ZoneRow) (sensors : LiveSensors) (c : LiveControl) (s : Seating) (o : Option ℕ) → length (seated_free rows sensors c s o).bank
    ≡ length s.bank
length_free rows sensors c s None = refl
length_free rows sensors c s (Some n) = length-set s.bank n (loaded (box_at s.bank n) c.item.setting)

length_one : (rows : List ZoneRow) (sensors : LiveSensors) (c : LiveControl) (s : Seating) (o : Option Seat) → length (seated rows sensors c s o).bank
    ≡ length s.bank
length_one rows sensors c s (Some seat) = refl
length_one rows sensors c s None = length_free rows sensors c s (free (kind_of c.item.setting) s.taken 0 s.bank)

length_seats : (rows : List ZoneRow) (sensors : LiveSensors) (old : List Held) (s : Seating) (cs : List LiveControl)
    → length (seat_all rows sensors old s cs).bank ≡ length s.bank
length_seats rows sensors old s [] = refl
length_seats rows sensors old s (c ∷ cs) = length_seats rows sensors old (seat_next rows sensors old s c) cs ∙ length_one rows sensors c s (kept_seat old c.id)

-- the seats of these controllers, where all were seated anew
abbrev pub seats_by : List ZoneRow → LiveSensors → List Held → List Seen → List LiveControl → Seating
seats_by rows sensors old bank cs =
    seat_all rows sensors old (record { held = []; taken = kept_numbers old cs; bank = cleared (kept_numbers old cs) bank }) cs

-- `set` keeps the number of boxes
pub length_renewed : (rows : List ZoneRow) (sensors : LiveSensors) (old : List Held) (bank : List Seen) (live : List Item)
    → length (seat_all rows sensors old (before old bank live) (controls live)).bank ≡ length bank
length_renewed rows sensors old bank live =
    length_seats rows sensors old (before old bank live) (controls live) ∙ length-numbered (cleared_box (kept_numbers old (controls live))) 0 bank
