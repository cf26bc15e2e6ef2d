-- What seating the controllers asks for.
use Rattle.std.specs.Prelude.{◌≡◌, ℕ, ◌+◌, ◌≤◌, ◌<◌, Bool, true, ◌&&◌, List, length, IsSome, None, count_by}
use Rattle.std.specs.List.{All}
use Rattle.std.specs.Option.{ForSome, is_none}
use Rattle.ctl_face.specs.declared.kind.Kind.{Kind}
use Rattle.ctl_face.specs.Ranges.{IsValid}
use Rattle.ctl_face.specs.Seen.{Seen}
use Rattle.ctl_face.specs.Kinds.{kind_of, kind_eq}
use Rattle.fan_zone.specs.Live.{LiveControl}
use Rattle.fan_zone.specs.Boxes.{box_at}
use Rattle.cfg_json.specs.Configs.{most_names}
use Rattle.fan_zone.specs.declared.held.Held.{Held}
use Rattle.fan_zone.specs.declared.held.Seat.{Seat}
use Rattle.fan_zone.specs.Sets.{Seating, kept_seat, is_taken, free}
use Rattle.fan_zone.specs.Sound.{AreSeated, AreSmall, IsTyped}

-- the setting is valid, and there is room for the inputs
pub record IsValidControl (control : LiveControl) : Type 0 where
  pub setting : IsValid control.item.setting
  pub inputs : length control.item.inputs ≤ most_names

abbrev pub is_of : Kind → Seen → Bool
is_of kind seen = kind_eq seen.kind kind

-- whether the box with this number is of a kind
abbrev pub is_number_of : List Seen → Kind → ℕ → Bool
is_number_of bank kind number = is_of kind (box_at bank number)

abbrev pub is_control_of : Kind → LiveControl → Bool
is_control_of kind control = kind_eq (kind_of control.item.setting) kind

-- whether it is a controller that was not there, and one of a kind
abbrev pub is_new : List Held → LiveControl → Bool
is_new old control = is_none (kept_seat old control.id)

abbrev pub is_new_of : List Held → Kind → LiveControl → Bool
is_new_of old kind control = is_new old control && is_control_of kind control

-- a box that is kept is there, taken and loaded
pub record IsKept (numbers : List ℕ) (bank : List Seen) (seat : Seat) : Type 0 where
  pub within : seat.number < length bank
  pub taken : is_taken numbers seat.number ≡ true
  pub loaded : IsSome (box_at bank seat.number).setting

abbrev pub KeepsBox : List Held → List ℕ → List Seen → LiveControl → Type 0
KeepsBox old taken bank control = ForSome (kept_seat old control.id) (IsKept taken bank)

-- what holds while the controllers take their seats, of those that sit and those that are left
pub record IsRoomy (old : List Held) (seating : Seating) (left : List LiveControl) : Type 0 where
  pub room : (kind : Kind) → count_by (is_number_of seating.bank kind) seating.taken + count_by (is_new_of old kind) left ≤ count_by (is_of kind) seating.bank
  pub kept : All (KeepsBox old seating.taken seating.bank) left
  pub valid : All IsValidControl left
  pub seats : AreSeated seating.bank seating.held
  pub taken : All (λ (held : Held). is_taken seating.taken held.number ≡ true) seating.held
  pub small : AreSmall seating.bank
  pub typed : All IsTyped seating.bank

-- a controller that can take its seat
pub record IsReady (old : List Held) (seating : Seating) (control : LiveControl) : Type 0 where
  pub valid : IsValidControl control
  pub free : kept_seat old control.id ≡ None → IsSome (free (kind_of control.item.setting) seating.taken 0 seating.bank)
