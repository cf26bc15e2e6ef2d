-- The controllers, zones and fans after `set`.
use Rattle.std.proofs.Common.{◌≡◌, ℕ, suc, ◌+◌, ◌<◌, Bool, true, false, ◌||◌, if◌then◌else◌, List, [], ◌∷◌, length, map, slice_index_or, Option, Some}
use Rattle.std.proofs.Common.{None, unwrap_or, refl, ap, sym, ◌∙◌, subst, arith}
use Rattle.std.proofs.lemmas.Bool.{true≢false}
use Rattle.std.proofs.lemmas.List.{length-map}
use mathlib.Core.List.{map-map}
use Rattle.std.proofs.lemmas.Option.{none-some, same_Some}
use Rattle.std.proofs.lemmas.Int.{ints}
use Rattle.std.specs.Prelude.{pos, bytes_eq}
use Rattle.std.specs.List.{All, IsDistinct, list_any}
use Rattle.std.specs.Option.{ForSome}
use Rattle.bmc_base.specs.declared.milli.Milli.{Milli}
use Rattle.ctl_face.specs.declared.setting.PidClass.{PidClass}
use Rattle.ctl_face.specs.declared.setting.PidClass.TheVariants.{Fan as FanClass, Temp as TempClass, Margin as MarginClass}
use Rattle.ctl_face.specs.declared.setting.Setting.{Setting}
use Rattle.ctl_face.specs.declared.setting.Setting.TheVariants.{Pid}
use Rattle.ctl_face.specs.Ranges.{IsMilli, IsValid}
use Rattle.ctl_face.specs.Kinds.{kind_of}
use Rattle.ctl_face.specs.Seen.{Seen, unloaded}
use Rattle.fan_zone.specs.Boxes.{box_at}
use Rattle.cfg_json.specs.declared.item.ItemId.{ItemId}
use Rattle.cfg_json.specs.declared.item.Item.{Item}
use Rattle.fan_zone.specs.Live.{LiveControl, id_eq, id_of, controls, LiveZone, zones, fans}
use Rattle.fan_zone.specs.declared.held.Held.{Held}
use Rattle.fan_zone.specs.declared.held.Seat.{Seat}
use Rattle.fan_zone.specs.declared.rows.ZonePlan.{ZonePlan}
use Rattle.fan_zone.specs.declared.rows.ZoneRow.{ZoneRow}
use Rattle.live_sensors.specs.Sensors.{LiveSensors}
use Rattle.fan_zone.specs.Passes.{thermal_setpoint}
use Rattle.fan_zone.specs.Ticks.{ZonesView}
use Rattle.fan_zone.specs.Sets.{Seating, role_of, role_of_class, zone_from, zone_of, held_of, free, kept_seat, seated, seated_free, seat_next, seat_all}
use Rattle.fan_zone.specs.SetRows.{plan_of, zone_row_of, kept_zone, find_zone, fan_plan_of, fan_row_of}
use Rattle.fan_zone.specs.Settings.{CanSet, HasZone, before, set_to, zone_rows_of}
use Rattle.fan_zone.specs.IsSets.{IsSet, Paired, Sits}
use Rattle.fan_zone.specs.Sound.{AreSpare, IsSound, HasSmallSetpoint, number_of, held_id, zone_plan_id, fan_plan_id}
use Rattle.fan_zone.proofs.Numbered.{all_tail, all_push, all_map}
use Rattle.fan_zone.proofs.SeatLoop.{roomy_end}
use Rattle.fan_zone.proofs.SetLaw.{roomy_start}
use Rattle.fan_zone.proofs.Apart.{apart_set}
use Rattle.fan_zone.proofs.SetMeaning.{set_means}

-- what holds of each controller in any seat holds of all that sit
abbrev AnySeat : List ZoneRow → LiveSensors → (Held → Type 0) → LiveControl → Type 0
AnySeat rows sensors P c = (seat : Seat) → P (held_of rows sensors c seat)

all_free : (rows : List ZoneRow) (sensors : LiveSensors) (P : Held → Type 0) (s : Seating) (c : LiveControl) (o : Option ℕ) → AnySeat rows sensors P c
    → All P s.held → All P (seated_free rows sensors c s o).held
all_free rows sensors P s c None here all = all
all_free rows sensors P s c (Some n) here all = all_push P s.held (held_of rows sensors c (record { number = n; age = 0 })) all
    (here (record { number = n; age = 0 }))

all_one : (rows : List ZoneRow) (sensors : LiveSensors) (P : Held → Type 0) (s : Seating) (c : LiveControl) (o : Option Seat) → AnySeat rows sensors P c
    → All P s.held → All P (seated rows sensors c s o).held
all_one rows sensors P s c (Some seat) here all = all_push P s.held (held_of rows sensors c seat) all (here seat)
all_one rows sensors P s c None here all = all_free rows sensors P s c (free (kind_of c.item.setting) s.taken 0 s.bank) here all

pub all_seated : (rows : List ZoneRow) (sensors : LiveSensors) (old : List Held) (P : Held → Type 0) (s : Seating) (cs : List LiveControl)
    → All (AnySeat rows sensors P) cs → All P s.held → All P (seat_all rows sensors old s cs).held
all_seated rows sensors old P s [] every all = all
all_seated rows sensors old P s (c ∷ cs) every all =
    all_seated rows sensors old P (seat_next rows sensors old s c) cs (all_tail (AnySeat rows sensors P) c cs every)
    (all_one rows sensors P s c (kept_seat old c.id) (every 0 c (omega arith)) all)

-- setpoints
class_setpoint : (class : PidClass) (setpoint : Milli) → IsMilli setpoint.0 → ForSome (thermal_setpoint (role_of_class class setpoint)) (λ s. IsMilli s.0)
class_setpoint FanClass setpoint h = λ x e. absurd (none-some x e)
class_setpoint TempClass setpoint h = λ x e. subst (λ (m : Milli). IsMilli m.0) (same_Some setpoint x e) h
class_setpoint MarginClass setpoint h = λ x e. subst (λ (m : Milli). IsMilli m.0) (same_Some setpoint x e) h

setpoint_small : (setting : Setting) → IsValid setting → ForSome (thermal_setpoint (role_of setting)) (λ s. IsMilli s.0)
setpoint_small (Pid set) v = class_setpoint set.class set.setpoint v.setpoint
setpoint_small _ v = λ x e. subst (λ (m : Milli). IsMilli m.0) (same_Some (record { 0 = pos 0 }) x e) (omega (arith, ints), omega (arith, ints))

-- zones
name_kept : (plans : List ZonePlan) (rows : List ZoneRow) (zone : LiveZone) (o : Option ZoneRow) → (kept_zone zone.name o).name ≡ zone.name
name_kept plans rows zone None = refl
name_kept plans rows zone (Some row) = refl

abbrev InRange : ℕ → ℕ → Option ℕ → Type 0
InRange n size o = (m : ℕ) × (o ≡ Some m) × (m < n + size)

zone_by : (n size : ℕ) (b c : Bool) (rest : Option ℕ) → (b || c) ≡ true → (c ≡ true → InRange (suc n) size rest)
    → InRange n (suc size) (if b then Some n else rest)
zone_by n size true c rest any more = (n, refl, omega arith)
zone_by n size false c rest any more =
    let r = more any in
    (r.0, r.1, omega (arith, r.2))

zone_found : (plans : List ZonePlan) (rows : List ZoneRow) (name : List ℕ) (n : ℕ) (list : List LiveZone)
    → list_any (λ (zone : LiveZone). bytes_eq zone.name name) list ≡ true
    → InRange n (length (map (zone_row_of plans rows) list)) (zone_from n (map (zone_row_of plans rows) list) name)
zone_found plans rows name n [] any = absurd (true≢false (sym any))
zone_found plans rows name n (zone ∷ list) any =
    let same : (zone_row_of plans rows zone).name ≡ zone.name = name_kept plans rows zone (find_zone zone.id plans rows) in
    zone_by n (length (map (zone_row_of plans rows) list)) (bytes_eq (zone_row_of plans rows zone).name name)
    (list_any (λ (z : LiveZone). bytes_eq z.name name) list) (zone_from (suc n) (map (zone_row_of plans rows) list) name)
    (ap (λ (m : List ℕ). bytes_eq m name || list_any (λ (z : LiveZone). bytes_eq z.name name) list) same ∙ any)
    (λ more. zone_found plans rows name (suc n) list more)

in_zone : (old : ZonesView) (live : List Item) (c : LiveControl) → HasZone live c
    → unwrap_or (zone_of (zone_rows_of old live) c.item.zone) 0 < length (zone_rows_of old live)
in_zone old live c has =
    let f = zone_found old.zone_plans old.zone_rows c.item.zone 0 (zones live) has in
    subst (λ (o : Option ℕ). unwrap_or o 0 < length (zone_rows_of old live)) (sym f.1) (omega (arith, f.2))

ids_paired : (rows : List ZoneRow) (sensors : LiveSensors) (old : List Held) (start bank : List Seen) (cs : List LiveControl) (hs : List Held)
    → Paired (Sits rows sensors old start bank) cs hs → map held_id hs ≡ map id_of cs
ids_paired rows sensors old start bank [] [] sit = refl
ids_paired rows sensors old start bank [] (h ∷ hs) sit = absurd sit
ids_paired rows sensors old start bank (c ∷ cs) [] sit = absurd sit
ids_paired rows sensors old start bank (c ∷ cs) (h ∷ hs) sit =
    let one : h.id ≡ c.id = ap (λ (held : Held). held.id) sit.0.record_is in
    ap (λ (id : ItemId). id ∷ map held_id hs) one
    ∙ ap (λ (l : List ItemId). c.id ∷ l) (ids_paired rows sensors old start bank cs hs sit.1)

-- a box of no controller is unloaded, of the kind that it was
spare_after : {live : List Item} {sensors : LiveSensors} (old new : ZonesView) → IsSet old live sensors new → AreSpare new.bank (map number_of new.held)
spare_after old new set number not =
    let is : box_at new.bank number ≡ unloaded (box_at old.bank number).kind = set.others number not in
    is ∙ ap unloaded (sym (ap (λ (b : Seen). b.kind) is))

pub set_sound : (live : List Item) (sensors : LiveSensors) (old : ZonesView) → IsSound old → CanSet old live → IsSound (set_to live sensors old)
set_sound live sensors old s can =
    let cs = controls live in
    let rows = zone_rows_of old live in
    let start = before old.held old.bank live in
    let new = set_to live sensors old in
    let r = roomy_end rows sensors old.held start cs (roomy_start old live s can) in
    record {
      seats = r.seats;
      outputs = r.small;
      typed = r.typed;
      setpoints = all_seated rows sensors old.held HasSmallSetpoint start cs
          (λ k d lt seat. setpoint_small (slice_index_or cs k d).item.setting (can.valid k d lt).setting) (λ k d lt. absurd (omega arith));
      apart = apart_set live sensors old s can;
      spare = spare_after old new (set_means live sensors old s can);
      zones = all_seated rows sensors old.held (λ (h : Held). h.zone < length rows) start cs
          (λ k d lt seat. in_zone old live (slice_index_or cs k d) (can.placed k d lt)) (λ k d lt. absurd (omega arith));
      plans = length-map (zones live) plan_of ∙ sym (length-map (zones live) (zone_row_of old.zone_plans old.zone_rows));
      lows = all_map plan_of (λ (plan : ZonePlan). IsMilli plan.setting.min_thermal.0) (zones live) (λ k d lt. (can.settings k d lt).min_thermal);
      fans = length-map (fans live) (fan_plan_of cs) ∙ sym (length-map (fans live) (fan_row_of old.fan_plans old.fan_rows));
      few_zones = omega (arith, can.few_zones, length-map (zones live) (zone_row_of old.zone_plans old.zone_rows));
      few_fans = omega (arith, can.few_fans, length-map (fans live) (fan_row_of old.fan_plans old.fan_rows));
      held_ids = subst (IsDistinct id_eq) (sym (ids_paired rows sensors old.held old.bank new.bank cs new.held (set_means live sensors old s can).sit)) can.ids;
      zone_ids = subst (IsDistinct id_eq) (sym (map-map zone_plan_id plan_of (zones live))) can.zone_ids;
      fan_ids = subst (IsDistinct id_eq) (sym (map-map fan_plan_id (fan_plan_of cs) (fans live))) can.fan_ids;
    }
