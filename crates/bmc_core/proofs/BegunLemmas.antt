-- A state to which nothing has happened.
use Rattle.std.proofs.Common.{◌≡◌, ◌∙◌, ◌≤◌, ℕ, zero, suc, List, [], ◌∷◌, Bool, true, false, ◌||◌, refl, ap, arith, map, subst, sym}
use Rattle.std.specs.List.{All}
use Rattle.ctl_face.specs.Seen.{Seen, unloaded}
use Rattle.cfg_json.specs.declared.item.Item.{Item}
use Rattle.inventory.specs.Boards.{board_places, boards_in}
use Rattle.inventory.specs.Items.{items, live}
use Rattle.live_sensors.specs.Sensors.{LiveSensors}
use Rattle.bmc_report.specs.declared.change.Change.{Change}
use Rattle.event_log.specs.Stands.{LogView, Stands as LogIsOf}
use Rattle.fan_zone.specs.Boxes.{box_at}
use Rattle.fan_zone.specs.IsSets.{Paired}
use Rattle.fan_zone.specs.Live.{controls, fans, zones}
use Rattle.fan_zone.specs.SetRows.{fan_plan_of, plan_of}
use Rattle.fan_zone.specs.Ticks.{ZonesView, no_zones}
use Rattle.fan_zone.proofs.Numbered.{all_tail}
use Rattle.bmc_machine.specs.Banks.{HasBank}
use Rattle.bmc_machine.specs.Boards.{board_keys, boards}
use Rattle.bmc_machine.specs.Histories.{Step, Options, Start, begun, is_strict, standing}
use Rattle.bmc_machine.specs.Logs.{entries}
use Rattle.bmc_machine.specs.Indexes.{boards_now, items_now, live_now}
use Rattle.bmc_machine.specs.Refusals.{IsLegal}
use Rattle.bmc_machine.specs.Turns.{fan_now, zone_now}
use Rattle.bmc_machine.specs.Zones.{Holds, ZonesStand}
use Rattle.bmc_machine.proofs.IdleLemmas.{live_same}
use Rattle.bmc_core.specs.Cores.{IsStated, LogStands}
use Rattle.bmc_core.specs.States.{IsState, StateStands}
use Rattle.bmc_core.specs.Senses.{AreLast, SensesStand, SensesView}
use Rattle.bmc_core.proofs.NotesLemmas.{sensors_idle, watch_idle}

none_live : live_now [] ≡ []
unfolding live_now items_now boards_now board_keys standing live items boards boards_in board_places
none_live = refl

-- a box at any number is unloaded where all are
unloaded_at : (bank : List Seen) (n : ℕ) → All (λ (seen : Seen). seen ≡ unloaded seen.kind) bank → box_at bank n ≡ unloaded (box_at bank n).kind
unloaded_at [] n free = refl
unloaded_at (box ∷ bank) zero free = free 0 box (omega arith)
unloaded_at (box ∷ bank) (suc n) free = unloaded_at bank n (all_tail (λ (seen : Seen). seen ≡ unloaded seen.kind) box bank free)

-- no zones stand where nothing is live
no_zones_stand : (bank : List Seen) (sensors : LiveSensors) (past : List Step) → live_now past ≡ [] → All (λ (seen : Seen). seen ≡ unloaded seen.kind) bank
    → ZonesStand (no_zones bank) sensors past
no_zones_stand bank sensors past none free = record {
  zone_plans = ap (λ (live : List Item). map plan_of (zones live)) (sym none);
  zone_rows = ap (λ (live : List Item). map (zone_now past) (zones live)) (sym none);
  fan_plans = ap (λ (live : List Item). map (fan_plan_of (controls live)) (fans live)) (sym none);
  fan_rows = ap (λ (live : List Item). map (fan_now past) (fans live)) (sym none);
  held = subst (λ (live : List Item). Paired (Holds [] sensors bank past) (controls live) []) (sym none) tt;
  apart = tt;
  others = λ number taken. unloaded_at bank number free;
}

-- a run was started, and nothing else happened
begun_legal : (options : Options) → IsLegal (begun options)
unfolding IsLegal
begun_legal options = (tt, tt)

begun_last : (options : Options) (told : List Change) → AreLast told [] → AreLast told (begun options)
begun_last options [] last = tt
begun_last options (change ∷ more) last = absurd last

begun_senses : (options : Options) (senses : SensesView) → SensesStand senses [] → SensesStand senses (begun options)
begun_senses options senses stood = record {
  watch = watch_idle senses.watch senses.watch [] (Start options) senses.watch.changes refl (begun_legal options) stood.watch refl;
  sensors = λ name. stood.sensors name ∙ sym (sensors_idle [] (Start options) refl (λ name tick. refl) (begun_legal options) name);
  ticks = stood.ticks;
  last = begun_last options senses.watch.changes stood.last;
}

-- strict mode is asked for, or not
begun_strict : (options : Options) → is_strict (begun options) ≡ options.strict
begun_strict options = by options.strict
  where
    by : (strict : Bool) → (strict || false) ≡ strict
    by true = refl
    by false = refl

-- the state stands for the history of a run that was started in this mode, whatever else it was told
pub stands_begun : (strict : Bool) (senses : SensesView) (bank : List Seen) (zones : ZonesView) → SensesStand senses [] → IsStated bank
    → zones ≡ no_zones bank → (options : Options) → options.strict ≡ strict
    → StateStands (record { senses = senses; zones = zones; strict = strict }) (begun options)
stands_begun strict senses bank zones stood stated are options same = record {
  senses = begun_senses options senses stood;
  zones = subst (λ (zones : ZonesView). ZonesStand zones senses.sensors (begun options)) (sym are)
      (no_zones_stand bank senses.sensors (begun options) (live_same (Start options) [] refl ∙ none_live) stated.free);
  strict = sym (begun_strict options ∙ same);
}

pub state_begun : (strict : Bool) (senses : SensesView) (bank : List Seen) (zones : ZonesView) → SensesStand senses [] → IsStated bank
    → zones ≡ no_zones bank → IsState (record { senses = senses; zones = zones; strict = strict })
state_begun strict senses bank zones stood stated are =
    let options : Options = record { strict = strict; log_cap = 1 } in
    record {
      past = begun options;
      stands = stands_begun strict senses bank zones stood stated are options refl;
      enough = subst (λ (zones : ZonesView). HasBank zones.bank) (sym are) stated.enough;
    }

-- the log of a run that was started has no entries
pub log_begun : (options : Options) (log : LogView) → LogIsOf log [] → log.error_cap ≡ options.log_cap → 1 ≤ options.log_cap
    → LogStands log (begun options)
unfolding entries
log_begun options log none cap some = record { entries = none; cap = cap; some = subst (λ (most : ℕ). 1 ≤ most) (sym cap) some }
