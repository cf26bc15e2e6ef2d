-- After a legal history the zones can take the live items.
use Rattle.std.proofs.Common.{◌≡◌, ◌≤◌, List, true, length, map, subst, sym}
use Rattle.std.specs.Prelude.{bytes_eq, count_by}
use Rattle.std.specs.List.{All, IsDistinct, list_any}
use Rattle.ctl_face.specs.declared.kind.Kind.{Kind}
use Rattle.ctl_face.specs.declared.kind.Kind.TheVariants.{Pid, Stepwise}
use Rattle.cfg_json.specs.Configs.{IsValidConfig, IsValidZone}
use Rattle.cfg_json.specs.declared.item.Item.{Item}
use Rattle.fan_zone.specs.Live.{LiveControl, LiveZone, LiveFan, controls, fans, id_eq, fan_id, id_of, zone_id, zones}
use Rattle.fan_zone.specs.Seats.{IsValidControl, is_control_of}
use Rattle.fan_zone.specs.Settings.{HasZone}
use Rattle.fan_zone.specs.Sound.{HaveOwnIds, most_fans, most_zones}
use Rattle.bmc_machine.specs.Banks.{AreFit, most_controls}
use Rattle.bmc_machine.specs.Histories.{Step, standing}
use Rattle.bmc_machine.specs.Indexes.{live_now}
use Rattle.bmc_machine.specs.Refusals.{IsLegal}
use Rattle.bmc_machine.proofs.LiveItemLemmas.{fan_ids_apart, ids_apart, placed, zone_ids_apart}
use Rattle.bmc_machine.proofs.LiveLimitLemmas.{few_fans, few_pids, few_steps, few_zones}
use Rattle.bmc_machine.proofs.LiveValidLemmas.{controls_valid, zones_valid}

-- the live items fit
pub fit : (past : List Step) → IsLegal past → All IsValidConfig (standing past).configs → AreFit (live_now past)
fit past legal valid = record {
  few_zones = few_zones past legal;
  few_fans = few_fans past legal;
  few_controls = few;
  ids = ids_apart past legal;
  zone_ids = zone_ids_apart past legal;
  fan_ids = fan_ids_apart past legal;
  valid = controls_valid past valid;
  settings = zones_valid past valid;
  placed = placed past;
}
  where
    few : (kind : Kind) → count_by (is_control_of kind) (controls (live_now past)) ≤ most_controls kind
    few Pid = few_pids past legal
    few Stepwise = few_steps past legal

-- and so do others that have the same zones, fans and controllers
pub fit_alike : (live acting : List Item) → controls acting ≡ controls live → zones acting ≡ zones live → fans acting ≡ fans live → AreFit live → AreFit acting
fit_alike live acting same_controls same_zones same_fans fits = record {
  few_zones = subst (λ (zones : List LiveZone). length zones ≤ most_zones) (sym same_zones) fits.few_zones;
  few_fans = subst (λ (fans : List LiveFan). length fans ≤ most_fans) (sym same_fans) fits.few_fans;
  few_controls = λ kind. subst (λ (controls : List LiveControl). count_by (is_control_of kind) controls ≤ most_controls kind) (sym same_controls)
      (fits.few_controls kind);
  ids = subst (λ (controls : List LiveControl). IsDistinct id_eq (map id_of controls)) (sym same_controls) fits.ids;
  zone_ids = subst (HaveOwnIds zone_id) (sym same_zones) fits.zone_ids;
  fan_ids = subst (HaveOwnIds fan_id) (sym same_fans) fits.fan_ids;
  valid = subst (All IsValidControl) (sym same_controls) fits.valid;
  settings = subst (All (λ (zone : LiveZone). IsValidZone zone.setting)) (sym same_zones) fits.settings;
  placed = subst (λ (all : List LiveZone). All (λ (control : LiveControl).
      list_any (λ (zone : LiveZone). bytes_eq zone.name control.item.zone) all ≡ true) (controls acting)) (sym same_zones)
      (subst (All (HasZone live)) (sym same_controls) fits.placed);
}
