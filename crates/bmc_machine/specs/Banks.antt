-- What a new list of live items asks of the bank, and what it has to be.
use Rattle.std.specs.Prelude.{ℕ, ◌≤◌, List, length, map, count_by}
use Rattle.std.specs.List.{All, IsDistinct}
use Rattle.ctl_face.specs.Kinds.{kind_eq}
use Rattle.ctl_face.specs.Seen.{Seen}
use Rattle.ctl_face.specs.declared.kind.Kind.{Kind}
use Rattle.ctl_face.specs.declared.kind.Kind.TheVariants.{Pid, Stepwise}
use Rattle.cfg_json.specs.Configs.{IsValidZone}
use Rattle.cfg_json.specs.declared.item.Item.{Item}
use Rattle.inventory.specs.Limits.{most_pids, most_steps}
use Rattle.fan_zone.specs.Boxes.{kinds_of}
use Rattle.fan_zone.specs.Live.{id_eq, id_of, LiveZone, fan_id, zone_id, controls, zones, fans}
use Rattle.fan_zone.specs.Seats.{IsValidControl, is_control_of}
use Rattle.fan_zone.specs.Settings.{HasZone}
use Rattle.fan_zone.specs.Sound.{HaveOwnIds, most_zones, most_fans}

-- the most controllers of a kind
abbrev pub most_controls : Kind → ℕ
most_controls Pid = most_pids
most_controls Stepwise = most_steps

-- a bank has a box for each controller that there may be
pub record HasBank (bank : List Seen) : Type 0 where
  pub boxes : (kind : Kind) → most_controls kind ≤ count_by (λ (each : Kind). kind_eq each kind) (kinds_of bank)

-- live items that zones can take, whatever they were before: there are no more zones, fans and controllers than the limits say; zones, fans and
-- controllers have ids of their own; they have valid settings and few inputs, and stand in one of the zones; and the numbers of zones are in
-- their ranges
pub record AreFit (live : List Item) : Type 0 where
  pub few_zones : length (zones live) ≤ most_zones
  pub few_fans : length (fans live) ≤ most_fans
  pub few_controls : (kind : Kind) → count_by (is_control_of kind) (controls live) ≤ most_controls kind
  pub ids : IsDistinct id_eq (map id_of (controls live))
  pub zone_ids : HaveOwnIds zone_id (zones live)
  pub fan_ids : HaveOwnIds fan_id (fans live)
  pub valid : All IsValidControl (controls live)
  pub settings : All (λ (zone : LiveZone). IsValidZone zone.setting) (zones live)
  pub placed : All (HasZone live) (controls live)
