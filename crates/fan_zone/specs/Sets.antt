-- What a new list of live items makes of the zones.
use Rattle.std.specs.Prelude.{ℕ, pos, suc, nat_eq, bytes_eq, Bool, not, ◌&&◌, if◌then◌else◌, List, [], ◌∷◌, ◌++◌, map, set, Option, Some, None}
use Rattle.std.specs.Prelude.{option_map, unwrap_or}
use Rattle.std.specs.List.{fold, list_any}
use Rattle.ctl_face.specs.declared.kind.Kind.{Kind}
use Rattle.ctl_face.specs.declared.setting.Setting.{Setting}
use Rattle.ctl_face.specs.declared.setting.Setting.TheVariants.{Pid}
use Rattle.ctl_face.specs.declared.setting.PidClass.{PidClass}
use Rattle.ctl_face.specs.declared.setting.PidClass.TheVariants.{Fan as FanClass, Temp as TempClass, Margin as MarginClass}
use Rattle.bmc_base.specs.declared.milli.Milli.{Milli}
use Rattle.ctl_face.specs.Seen.{Seen, loaded, unloaded}
use Rattle.ctl_face.specs.Kinds.{kind_of, kind_eq}
use Rattle.fan_zone.specs.Boxes.{box_at}
use Rattle.cfg_json.specs.declared.item.ItemId.{ItemId}
use Rattle.fan_zone.specs.declared.held.Held.{Held}
use Rattle.fan_zone.specs.declared.held.Seat.{Seat}
use Rattle.fan_zone.specs.declared.held.Role.{Role}
use Rattle.fan_zone.specs.declared.held.Role.TheVariants.{Fan, Temp, Margin}
use Rattle.fan_zone.specs.declared.rows.ZoneRow.{ZoneRow}
use Rattle.live_sensors.specs.Sensors.{LiveSensors, slot_of}
use Rattle.fan_zone.specs.Live.{LiveControl, id_eq}
use Rattle.fan_zone.specs.Rows.{numbered}

abbrev pub role_of_class : PidClass → Milli → Role
role_of_class FanClass setpoint = Fan
role_of_class TempClass setpoint = Temp setpoint
role_of_class MarginClass setpoint = Margin setpoint

-- what a controller does in its zone
abbrev pub role_of : Setting → Role
role_of (Pid set) = role_of_class set.class set.setpoint
role_of _ = Temp (record { 0 = pos 0 })

-- the number of the zone with this name, the first of them being n
abbrev pub zone_from : ℕ → List ZoneRow → List ℕ → Option ℕ
zone_from n [] name = None
zone_from n (row ∷ more) name = if bytes_eq row.name name then Some n else zone_from (suc n) more name

abbrev pub zone_of : List ZoneRow → List ℕ → Option ℕ
zone_of rows name = zone_from 0 rows name

-- the record of a controller in a seat
abbrev pub held_of : List ZoneRow → LiveSensors → LiveControl → Seat → Held
held_of rows sensors control seat = record {
  id = control.id;
  role = role_of control.item.setting;
  zone = unwrap_or (zone_of rows control.item.zone) 0;
  inputs = map (slot_of sensors) control.item.inputs;
  number = seat.number;
  age = seat.age;
}

-- the controller that had this id
abbrev pub find_held : ItemId → List Held → Option Held
find_held id [] = None
find_held id (held ∷ more) = if id_eq held.id id then Some held else find_held id more

abbrev pub seat_of : Held → Seat
seat_of held = record { number = held.number; age = held.age }

-- the seat that the controller with an id keeps
abbrev pub kept_seat : List Held → ItemId → Option Seat
kept_seat old id = option_map seat_of (find_held id old)

abbrev pub with_number : Option Seat → List ℕ → List ℕ
with_number None numbers = numbers
with_number (Some seat) numbers = seat.number ∷ numbers

-- the boxes that are kept
abbrev pub kept_numbers : List Held → List LiveControl → List ℕ
kept_numbers old [] = []
kept_numbers old (control ∷ more) = with_number (kept_seat old control.id) (kept_numbers old more)

abbrev pub is_taken : List ℕ → ℕ → Bool
is_taken taken number = list_any (λ (one : ℕ). nat_eq one number) taken

-- a box that is not kept is unloaded
abbrev pub cleared_box : List ℕ → ℕ → Seen → Seen
cleared_box taken number seen = if is_taken taken number then seen else unloaded seen.kind

abbrev pub cleared : List ℕ → List Seen → List Seen
cleared taken bank = numbered (cleared_box taken) 0 bank

-- the first box of a kind that is not taken
abbrev pub free : Kind → List ℕ → ℕ → List Seen → Option ℕ
free kind taken n [] = None
free kind taken n (seen ∷ more) = if kind_eq seen.kind kind && not (is_taken taken n) then Some n else free kind taken (suc n) more

-- the controllers that have their seats, the boxes that are taken, and the bank
pub record Seating : Type 0 where
  pub held : List Held
  pub taken : List ℕ
  pub bank : List Seen

abbrev pub seating : List Held → List ℕ → List Seen → Seating
seating held taken bank = record { held = held; taken = taken; bank = bank }

abbrev pub seated_free : List ZoneRow → LiveSensors → LiveControl → Seating → Option ℕ → Seating
seated_free rows sensors control before None = before
seated_free rows sensors control before (Some number) = record {
  held = before.held ++ held_of rows sensors control (record { number = number; age = 0 }) ∷ [];
  taken = before.taken ++ number ∷ [];
  bank = set before.bank number (loaded (box_at before.bank number) control.item.setting);
}

abbrev pub seated : List ZoneRow → LiveSensors → LiveControl → Seating → Option Seat → Seating
seated rows sensors control before (Some seat) = record before { held = before.held ++ held_of rows sensors control seat ∷ [] }
seated rows sensors control before None =
    seated_free rows sensors control before (free (kind_of control.item.setting) before.taken 0 before.bank)

-- one more controller takes its seat: the one that it kept, or the first free box of its kind, loaded
abbrev pub seat_next : List ZoneRow → LiveSensors → List Held → Seating → LiveControl → Seating
seat_next rows sensors old before control = seated rows sensors control before (kept_seat old control.id)

abbrev pub seat_all : List ZoneRow → LiveSensors → List Held → Seating → List LiveControl → Seating
seat_all rows sensors old before controls = fold (seat_next rows sensors old) before controls
