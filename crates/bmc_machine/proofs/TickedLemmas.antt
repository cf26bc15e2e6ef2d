-- A tick of a legal history.
use Rattle.std.proofs.Common.{◌≡◌, ℕ, List, ◌∷◌, ◌++◌, true, refl, ap, ap₂, ◌∙◌}
use Rattle.std.specs.List.{AllByRecursion, Contains, list_any}
use Rattle.std.proofs.lemmas.Option.{get_or_from_slice_get, slice_get_within}
use Rattle.inventory.specs.declared.family.Family.TheVariants as families
use Rattle.live_sensors.specs.Sensors.{LiveSensors, sensor_in}
use Rattle.fan_zone.specs.Live.{LiveControl, LiveZone, LiveFan, controls, zones, fans}
use Rattle.fan_zone.specs.Settings.{HasZone}
use Rattle.fan_zone.specs.Ticks.{ZonesView, ticked}
use Rattle.fan_zone.proofs.Numbered.{all_at}
use Rattle.bmc_report.specs.declared.change.Change.{Change}
use Rattle.bmc_machine.specs.Changes.{changes, changes_between, changes_of_zones, inventory}
use Rattle.bmc_machine.specs.Histories.{Step, Tick, is_strict}
use Rattle.bmc_machine.specs.Indexes.{live_now}
use Rattle.bmc_machine.specs.Lives.{has_id, sensor_now}
use Rattle.bmc_machine.specs.Refusals.{IsLegal}
use Rattle.bmc_machine.specs.Turns.{next_tick}
use Rattle.bmc_machine.specs.Zones.{ZonesStand}
use Rattle.bmc_machine.proofs.IdleLemmas.{inventory_same, nothing_between}
use Rattle.bmc_machine.proofs.LiveItemLemmas.{placed}
use Rattle.bmc_machine.proofs.LiveStayLemmas.{control_has_id, fan_has_id, zone_has_id}
use Rattle.bmc_machine.proofs.LivesLemmas.{no_sensor_changes}
use Rattle.bmc_machine.proofs.NameLemmas.{live_names_differ}
use Rattle.bmc_machine.proofs.NumberLemmas.{apart_zones, is_named}
use Rattle.bmc_machine.proofs.SettledLemmas.{named_once}
use Rattle.bmc_machine.proofs.TickLemmas.{by_place, stands_ticked}

-- what holds of each element
each_of : {A : Type 0} (P : A → Type 0) (xs : List A) → ((x : A) → Contains xs x → P x) → AllByRecursion P xs
each_of P xs each = by_place P xs (λ n x at. each x (n, slice_get_within xs n x at, get_or_from_slice_get xs n x x at))

module _ (past : List Step) where
  pub controls_there : AllByRecursion (λ (control : LiveControl). has_id (live_now past) control.id ≡ true) (controls (live_now past))
  controls_there = each_of _ _ (control_has_id (live_now past))

  pub zones_there : AllByRecursion (λ (zone : LiveZone). has_id (live_now past) zone.id ≡ true) (zones (live_now past))
  zones_there = each_of _ _ (zone_has_id (live_now past))

  pub fans_there : AllByRecursion (λ (fan : LiveFan). has_id (live_now past) fan.id ≡ true) (fans (live_now past))
  fans_there = each_of _ _ (fan_has_id (live_now past))

  pub controls_placed : AllByRecursion (λ (control : LiveControl). list_any (is_named control.item.zone) (zones (live_now past)) ≡ true)
      (controls (live_now past))
  controls_placed = by_place _ _ (λ n control at. all_at (HasZone (live_now past)) (controls (live_now past)) n control (placed past) at)

pub zones_tick : (past : List Step) (sensors : LiveSensors) (view : ZonesView) → IsLegal past
    → ((name : List ℕ) → sensor_in sensors name ≡ sensor_now past name) → ZonesStand view sensors past
    → ZonesStand (ticked sensors.slots (next_tick past) (is_strict past) view) sensors (Tick ∷ past)
zones_tick past sensors view legal known stand =
    stands_ticked past sensors view stand known (controls_there past) (zones_there past) (fans_there past) (controls_placed past)
    (apart_zones (live_now past) (named_once families.Zone (live_now past) (live_names_differ past families.Zone legal)))

-- a tick changes what zones and fans show, and nothing else
pub changes_ticked : (past : List Step) → changes past Tick ≡ changes_of_zones past Tick
changes_ticked past =
    ap₂ (λ (first later : List Change). first ++ later ++ changes_of_zones past Tick)
    (ap (changes_between (inventory past)) (inventory_same Tick past refl) ∙ nothing_between (inventory past))
    (no_sensor_changes past Tick (λ name tick. refl))
