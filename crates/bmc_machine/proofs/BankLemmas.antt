-- A bank that has a box for each controller that there may be keeps them, so zones can be set after each legal step.
use Rattle.std.proofs.Common.{◌≡◌, ℕ, zero, suc, ◌+◌, ◌≤◌, Bool, cond, List, [], ◌∷◌, length, set, Option, Some, None, refl, sym, ap, ◌∙◌, subst, arith}
use Rattle.std.specs.List.{count_by}
use Rattle.ctl_face.specs.Kinds.{kind_of, kind_eq}
use Rattle.ctl_face.specs.Seen.{Seen, stepped}
use Rattle.ctl_face.specs.declared.kind.Kind.{Kind}
use Rattle.ctl_face.specs.declared.kind.Kind.TheVariants.{Pid, Stepwise}
use Rattle.ctl_face.specs.declared.sample.Sample.{Sample}
use Rattle.cfg_json.specs.declared.item.Item.{Item}
use Rattle.live_sensors.specs.Sensors.{LiveSensors}
use Rattle.sensor_core.specs.Sensors.{Sensor}
use Rattle.fan_zone.specs.Boxes.{box_at, kinds_of}
use Rattle.fan_zone.specs.IsSets.{IsSet}
use Rattle.fan_zone.specs.Live.{LiveControl, controls}
use Rattle.fan_zone.specs.Passes.{step_box, pass, thermal_sample, fan_sample}
use Rattle.fan_zone.specs.Settings.{CanSet}
use Rattle.fan_zone.specs.Ticks.{ZonesView, ticked, thermal_bank, zone_rows_after}
use Rattle.fan_zone.specs.declared.held.Held.{Held}
use Rattle.fan_zone.proofs.Pigeons.{count_cons}
use Rattle.bmc_machine.specs.Banks.{HasBank, AreFit, most_controls}
use Rattle.bmc_machine.specs.Histories.{Step}
use Rattle.bmc_machine.specs.Indexes.{live_now}
use Rattle.bmc_machine.specs.Refusals.{IsLegal}
use Rattle.bmc_machine.specs.Zones.{ZonesStand}
use Rattle.bmc_machine.proofs.SettingLemmas.{settings_same}

-- ---- kinds

-- each is of one of the two kinds
both_kinds : {X : Type 0} (kind : X → Kind) (xs : List X)
    → count_by (λ (x : X). kind_eq (kind x) Pid) xs + count_by (λ (x : X). kind_eq (kind x) Stepwise) xs ≡ length xs
both_kinds kind [] = refl
both_kinds {X} kind (x ∷ xs) =
    let one : cond {A = ℕ} (kind_eq (kind x) Pid) 1 0 + cond {A = ℕ} (kind_eq (kind x) Stepwise) 1 0 ≡ 1 = by (kind x) in
    omega (
      arith,
      one,
      count_cons (λ (x : X). kind_eq (kind x) Pid) x xs,
      count_cons (λ (x : X). kind_eq (kind x) Stepwise) x xs,
      both_kinds kind xs,
    )
  where
    by : (kind : Kind) → cond {A = ℕ} (kind_eq kind Pid) 1 0 + cond {A = ℕ} (kind_eq kind Stepwise) 1 0 ≡ 1
    by Pid = refl
    by Stepwise = refl

-- ---- the bank stays

kinds_stepped : (bank : List Seen) (number : ℕ) (sample : Sample) → kinds_of (set bank number (stepped (box_at bank number) sample)) ≡ kinds_of bank
kinds_stepped [] number sample = refl
kinds_stepped (box ∷ bank) zero sample = refl
kinds_stepped (box ∷ bank) (suc number) sample = ap (λ (kinds : List Kind). box.kind ∷ kinds) (kinds_stepped bank number sample)

kinds_step : (bank : List Seen) (number : ℕ) (sample : Option Sample) → kinds_of (step_box bank number sample) ≡ kinds_of bank
kinds_step bank number None = refl
kinds_step bank number (Some sample) = kinds_stepped bank number sample

pub kinds_pass : (sample : Held → Option Sample) (held : List Held) (bank : List Seen) → kinds_of (pass sample held bank) ≡ kinds_of bank
kinds_pass sample [] bank = refl
kinds_pass sample (one ∷ held) bank =
    kinds_pass sample held (step_box bank one.number (sample one)) ∙ kinds_step bank one.number (sample one)

pub bank_kept : (old new : List Seen) → kinds_of new ≡ kinds_of old → HasBank old → HasBank new
bank_kept old new same bank = record {
  boxes = λ kind. subst (λ (kinds : List Kind). most_controls kind ≤ count_by (λ (each : Kind). kind_eq each kind) kinds) (sym same) (bank.boxes kind);
}

pub bank_kept_by_set : (old new : ZonesView) (sensors : LiveSensors) (acting : List Item) → IsSet old acting sensors new → HasBank old.bank → HasBank new.bank
bank_kept_by_set old new sensors acting set = bank_kept old.bank new.bank set.kinds

pub bank_kept_by_tick : (slots : List (Option Sensor)) (now : ℕ) (strict : Bool) (old : ZonesView)
    → HasBank old.bank → HasBank (ticked slots now strict old).bank
bank_kept_by_tick slots now strict old =
    bank_kept old.bank (ticked slots now strict old).bank
    (kinds_pass (fan_sample slots now (zone_rows_after slots now old)) old.held (thermal_bank slots now old)
    ∙ kinds_pass (thermal_sample slots now) old.held old.bank)

-- ---- zones can be set

pub can_set : (old : ZonesView) (sensors : LiveSensors) (step : Step) (past : List Step) (acting : List Item) → IsLegal (step ∷ past)
    → controls acting ≡ controls (live_now (step ∷ past)) → ZonesStand old sensors past → HasBank old.bank → AreFit acting → CanSet old acting
can_set old sensors step past acting legal same stands bank fit =
    let kinds = kinds_of old.bank in
    record {
      few = omega (
        arith,
        both_kinds (λ (control : LiveControl). kind_of control.item.setting) (controls acting),
        both_kinds (λ (kind : Kind). kind) kinds,
        fit.few_controls Pid,
        fit.few_controls Stepwise,
        bank.boxes Pid,
        bank.boxes Stepwise,
      );
      room = λ kind. omega (arith, fit.few_controls kind, bank.boxes kind);
      few_zones = fit.few_zones;
      few_fans = fit.few_fans;
      ids = fit.ids;
      zone_ids = fit.zone_ids;
      fan_ids = fit.fan_ids;
      valid = fit.valid;
      settings = fit.settings;
      placed = fit.placed;
      same = settings_same step past legal old sensors stands acting same;
    }
