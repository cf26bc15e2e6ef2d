-- Where the live items change, the zones that are set stand for the longer history.
use Rattle.std.proofs.Common.{◌≡◌, ℕ, ◌%◌, List, [], ◌∷◌, map, Bool, true, false, cond, Option, Some, None, option_map, find, refl, sym, ap, ap₂, ◌∙◌}
use Rattle.std.proofs.Common.{subst}
use Rattle.std.specs.Prelude.{⊤}
use Rattle.std.specs.List.{All}
use Rattle.std.proofs.lemmas.List.Elements.{All-from_recursion}
use Rattle.std.proofs.lemmas.Option.{none-some, same_Some}
use Rattle.ctl_face.specs.Kinds.{kind_of}
use Rattle.ctl_face.specs.Seen.{Seen, unloaded}
use Rattle.ctl_face.specs.declared.state.CtlState.{CtlState}
use Rattle.cfg_json.specs.declared.item.Item.{Item}
use Rattle.cfg_json.specs.declared.item.ItemId.{ItemId}
use Rattle.inventory.proofs.ListLemmas.{all_weaker}
use Rattle.live_sensors.specs.Sensors.{LiveSensors}
use Rattle.fan_zone.specs.Boxes.{box_at}
use Rattle.fan_zone.specs.IsSets.{IsSet, Paired, Sits}
use Rattle.fan_zone.specs.Live.{LiveControl, LiveZone, LiveFan, controls, zones, fans, id_eq}
use Rattle.fan_zone.specs.Sets.{find_held, seat_of}
use Rattle.fan_zone.specs.SetRows.{plan_of, find_zone, kept_zone, zone_row_of, fan_plan_of, find_fan, kept_fan, fan_row_of}
use Rattle.fan_zone.specs.Settings.{HasSameSetting}
use Rattle.fan_zone.specs.Ticks.{ZonesView}
use Rattle.fan_zone.specs.declared.held.Held.{Held}
use Rattle.fan_zone.specs.declared.held.Seat.{Seat}
use Rattle.fan_zone.specs.declared.rows.FanPlan.{FanPlan}
use Rattle.fan_zone.specs.declared.rows.FanRow.{FanRow}
use Rattle.fan_zone.specs.declared.rows.ZonePlan.{ZonePlan}
use Rattle.fan_zone.specs.declared.rows.ZoneRow.{ZoneRow}
use Rattle.bmc_machine.specs.Histories.{Step, is_tick}
use Rattle.bmc_machine.specs.Indexes.{live_now}
use Rattle.bmc_machine.specs.Lives.{has_id}
use Rattle.bmc_machine.specs.Refusals.{IsLegal}
use Rattle.bmc_machine.specs.Turns.{zone_now, fan_now}
use Rattle.bmc_machine.specs.Zones.{Holds, ZonesStand}
use Rattle.bmc_machine.proofs.FoundLemmas.{IsPicked, live_controls, live_zones, live_fans, control_was, zone_was, fan_was}
use Rattle.bmc_machine.proofs.HolderLemmas.{IsLive}
use Rattle.bmc_machine.proofs.PartLemmas.{control_of, zone_at, fan_at}
use Rattle.bmc_machine.proofs.SinceLemmas.{zone_name, fan_name, age_waits, state_waits, zone_waits, fan_waits, age_new, state_new, zone_new, fan_new}
use Rattle.bmc_machine.proofs.StayLemmas.{legal_step}
use Rattle.bmc_machine.proofs.WaitingLemmas.{map_alike, paired_with}

-- ---- what is found by an id in lists that are paired

-- nothing is found in either of two lists, or a pair
abbrev pub BothFound : (LiveControl → Held → Type 0) → Option LiveControl → Option Held → Type 0
BothFound R None None = ⊤
BothFound R None (Some held) = ⊥
BothFound R (Some control) None = ⊥
BothFound R (Some control) (Some held) = R control held

find_paired : (R : LiveControl → Held → Type 0) (id : ItemId) → ((control : LiveControl) (held : Held) → R control held → held.id ≡ control.id)
    → (live : List LiveControl) (held : List Held) → Paired R live held
    → BothFound R (find (λ (control : LiveControl). id_eq control.id id) live) (find_held id held)
find_paired R id own [] [] paired = tt
find_paired R id own [] (one ∷ held) paired = absurd paired
find_paired R id own (control ∷ live) [] paired = absurd paired
find_paired R id own (control ∷ live) (one ∷ held) paired =
    subst (λ (b : Bool). BothFound R (find (λ (control : LiveControl). id_eq control.id id) (control ∷ live)) (cond b (Some one) (find_held id held)))
    (ap (λ (own : ItemId). id_eq own id) (sym (own control one paired.0))) (by (id_eq control.id id) (find_paired R id own live held paired.1))
  where
    by : (hit : Bool) → BothFound R (find (λ (control : LiveControl). id_eq control.id id) live) (find_held id held)
        → BothFound R (cond hit (Some control) (find (λ (control : LiveControl). id_eq control.id id) live)) (cond hit (Some one) (find_held id held))
    by true rest = paired.0
    by false rest = rest

zone_in_maps : (id : ItemId) (row_of : LiveZone → ZoneRow) (live : List LiveZone)
    → find_zone id (map plan_of live) (map row_of live) ≡ option_map row_of (find (λ (zone : LiveZone). id_eq zone.id id) live)
zone_in_maps id row_of [] = refl
zone_in_maps id row_of (zone ∷ live) = by (id_eq zone.id id) (zone_in_maps id row_of live)
  where
    by : (hit : Bool) → find_zone id (map plan_of live) (map row_of live) ≡ option_map row_of (find (λ (zone : LiveZone). id_eq zone.id id) live)
        → cond hit (Some (row_of zone)) (find_zone id (map plan_of live) (map row_of live))
        ≡ option_map row_of (cond hit (Some zone) (find (λ (zone : LiveZone). id_eq zone.id id) live))
    by true rest = refl
    by false rest = rest

fan_in_maps : (id : ItemId) (plan : LiveFan → FanPlan) (row_of : LiveFan → FanRow) → ((fan : LiveFan) → (plan fan).id ≡ fan.id) → (live : List LiveFan)
    → find_fan id (map plan live) (map row_of live) ≡ option_map row_of (find (λ (fan : LiveFan). id_eq fan.id id) live)
fan_in_maps id plan row_of own [] = refl
fan_in_maps id plan row_of own (fan ∷ live) =
    ap (λ (own : ItemId). cond (id_eq own id) (Some (row_of fan)) (find_fan id (map plan live) (map row_of live))) (own fan)
    ∙ by (id_eq fan.id id) (fan_in_maps id plan row_of own live)
  where
    by : (hit : Bool) → find_fan id (map plan live) (map row_of live) ≡ option_map row_of (find (λ (fan : LiveFan). id_eq fan.id id) live)
        → cond hit (Some (row_of fan)) (find_fan id (map plan live) (map row_of live))
        ≡ option_map row_of (cond hit (Some fan) (find (λ (fan : LiveFan). id_eq fan.id id) live))
    by true rest = refl
    by false rest = rest

-- ---- over a step

module _ (step : Step) (past : List Step) (legal : IsLegal (step ∷ past)) (old : ZonesView) (sensors : LiveSensors) (stands : ZonesStand old sensors past) where
  -- a controller that is live after the step was held before it if its id was live then, as history has it
  held_before : (control : LiveControl) → IsPicked control_of (IsLive (step ∷ past)) control
      → BothFound (Holds old.zone_rows sensors old.bank past) (cond (has_id (live_now past) control.id) (Some control) None)
      (find_held control.id old.held)
  held_before control now =
      subst (λ (found : Option LiveControl). BothFound (Holds old.zone_rows sensors old.bank past) found (find_held control.id old.held))
      (control_was past step (legal_step past step legal) control now)
      (find_paired (Holds old.zone_rows sensors old.bank past) control.id (λ control held holds. ap (λ (one : Held). one.id) holds.names)
      (controls (live_now past)) old.held stands.held)

  same_setting : (control : LiveControl) → IsPicked control_of (IsLive (step ∷ past)) control → HasSameSetting old control
  same_setting control now held found = by (has_id (live_now past) control.id) (find_held control.id old.held) found (held_before control now)
    where
      by : (lived : Bool) (was : Option Held) → was ≡ Some held
          → BothFound (Holds old.zone_rows sensors old.bank past) (cond lived (Some control) None) was
          → (box_at old.bank held.number).setting ≡ Some control.item.setting
      by true None is both = absurd both
      by true (Some was) is both =
          ap (λ (held : Held). (box_at old.bank held.number).setting) (sym (same_Some was held is)) ∙ ap (λ (box : Seen). box.setting) both.box
      by false None is both = absurd (none-some held is)
      by false (Some was) is both = absurd both

  -- each controller that was there has the setting that it had
  pub settings_same : (acting : List Item) → controls acting ≡ controls (live_now (step ∷ past)) → All (HasSameSetting old) (controls acting)
  settings_same acting same =
      subst (All (HasSameSetting old)) (sym same)
      (All-from_recursion (HasSameSetting old) (controls (live_now (step ∷ past)))
      (all_weaker _ _ same_setting (controls (live_now (step ∷ past))) (live_controls (step ∷ past))))

  module _ (still : is_tick step ≡ false) where
    zone_shown : (zone : LiveZone) → IsPicked zone_at (IsLive (step ∷ past)) zone
        → zone_row_of old.zone_plans old.zone_rows zone ≡ zone_now (step ∷ past) zone
    zone_shown zone now =
        ap₂ (λ (plans : List ZonePlan) (rows : List ZoneRow). zone_row_of plans rows zone) stands.zone_plans stands.zone_rows
        ∙ ap (kept_zone zone.name)
        (zone_in_maps zone.id (zone_now past) (zones (live_now past))
        ∙ ap (option_map (zone_now past)) (zone_was past step (legal_step past step legal) zone now))
        ∙ by (has_id (live_now past) zone.id) refl
      where
        by : (lived : Bool) → has_id (live_now past) zone.id ≡ lived
            → kept_zone zone.name (option_map (zone_now past) (cond lived (Some zone) None)) ≡ zone_now (step ∷ past) zone
        by true lived =
            ap (λ (name : List ℕ). record { name = name; failsafe = (zone_now past zone).failsafe; setpoint = (zone_now past zone).setpoint })
            (sym (zone_name past zone)) ∙ sym (zone_waits step past still zone lived)
        by false absent = sym (zone_new step past zone absent)

    fan_shown : (fan : LiveFan) → IsPicked fan_at (IsLive (step ∷ past)) fan
        → fan_row_of old.fan_plans old.fan_rows fan ≡ fan_now (step ∷ past) fan
    fan_shown fan now =
        ap₂ (λ (plans : List FanPlan) (rows : List FanRow). fan_row_of plans rows fan) stands.fan_plans stands.fan_rows
        ∙ ap (kept_fan fan.name)
        (fan_in_maps fan.id (fan_plan_of (controls (live_now past))) (fan_now past) (λ fan. refl) (fans (live_now past))
        ∙ ap (option_map (fan_now past)) (fan_was past step (legal_step past step legal) fan now))
        ∙ by (has_id (live_now past) fan.id) refl
      where
        by : (lived : Bool) → has_id (live_now past) fan.id ≡ lived
            → kept_fan fan.name (option_map (fan_now past) (cond lived (Some fan) None)) ≡ fan_now (step ∷ past) fan
        by true lived =
            ap (λ (name : List ℕ). record { name = name; duty = (fan_now past fan).duty }) (sym (fan_name past fan))
            ∙ sym (fan_waits step past still fan lived)
        by false absent = sym (fan_new step past fan absent)

    module _ (sensors_now : LiveSensors) (new : ZonesView) where
      -- a controller that sits is held as history has it
      holds_now : (control : LiveControl) (held : Held) → IsPicked control_of (IsLive (step ∷ past)) control
          → Sits new.zone_rows sensors_now old.held old.bank new.bank control held
          → Holds new.zone_rows sensors_now new.bank (step ∷ past) control held
      holds_now control held now sits =
          by (has_id (live_now past) control.id) (find_held control.id old.held) refl refl (held_before control now)
        where
          by : (lived : Bool) (found : Option Held) → has_id (live_now past) control.id ≡ lived → find_held control.id old.held ≡ found
              → BothFound (Holds old.zone_rows sensors old.bank past) (cond lived (Some control) None) found
              → Holds new.zone_rows sensors_now new.bank (step ∷ past) control held
          by true None lived is both = absurd both
          by true (Some was) lived is both =
              let kept = sits.kept (seat_of was) (ap (option_map seat_of) is) in
              record {
                names = sits.record_is;
                age =
                    ap (λ (seat : Seat). seat.age) kept.0 ∙ both.age
                    ∙ ap (λ (age : ℕ). age % 10) (sym (age_waits step past still control.id lived));
                box =
                    kept.1 ∙ ap (λ (seat : Seat). box_at old.bank seat.number) kept.0 ∙ both.box
                    ∙ ap (λ (state : CtlState). record { kind = kind_of control.item.setting; setting = Some control.item.setting; state = state })
                    (sym (state_waits step past still control lived));
              }
          by false None absent is both =
              let fresh = sits.fresh (ap (option_map seat_of) is) in
              record {
                names = sits.record_is;
                age = fresh.0 ∙ ap (λ (age : ℕ). age % 10) (sym (age_new step past control.id absent));
                box =
                    fresh.1
                    ∙ ap (λ (state : CtlState). record { kind = kind_of control.item.setting; setting = Some control.item.setting; state = state })
                    (sym (state_new step past control absent));
              }
          by false (Some was) absent is both = absurd both

      module _ (acting : List Item) (same_controls : controls acting ≡ controls (live_now (step ∷ past)))
          (same_zones : zones acting ≡ zones (live_now (step ∷ past))) (same_fans : fans acting ≡ fans (live_now (step ∷ past))) where
        stands_then : IsSet old acting sensors_now new → ZonesStand new sensors_now (step ∷ past)
        stands_then set =
            let live = live_now (step ∷ past) in
            record {
              zone_plans = set.zone_plans ∙ ap (map plan_of) same_zones;
              zone_rows =
                  set.zone_rows ∙ ap (map (zone_row_of old.zone_plans old.zone_rows)) same_zones
                  ∙ map_alike (zone_row_of old.zone_plans old.zone_rows) (zone_now (step ∷ past)) (zones live)
                  (all_weaker _ _ zone_shown (zones live) (live_zones (step ∷ past)));
              fan_plans =
                  set.fan_plans
                  ∙ ap₂ (λ (holders : List LiveControl) (turning : List LiveFan). map (fan_plan_of holders) turning) same_controls same_fans;
              fan_rows =
                  set.fan_rows ∙ ap (map (fan_row_of old.fan_plans old.fan_rows)) same_fans
                  ∙ map_alike (fan_row_of old.fan_plans old.fan_rows) (fan_now (step ∷ past)) (fans live)
                  (all_weaker _ _ fan_shown (fans live) (live_fans (step ∷ past)));
              held =
                  paired_with (IsPicked control_of (IsLive (step ∷ past))) _ _ (controls live) new.held holds_now (live_controls (step ∷ past))
                  (subst (λ (live : List LiveControl). Paired (Sits new.zone_rows sensors_now old.held old.bank new.bank) live new.held) same_controls
                  set.sit);
              apart = set.apart;
              others = λ number free. set.others number free ∙ sym (ap (λ (box : Seen). unloaded box.kind) (set.others number free));
            }

pub zones_set : (old new : ZonesView) (sensors sensors_now : LiveSensors) (step : Step) (past : List Step) (acting : List Item) → IsLegal (step ∷ past)
    → is_tick step ≡ false → controls acting ≡ controls (live_now (step ∷ past)) → zones acting ≡ zones (live_now (step ∷ past))
    → fans acting ≡ fans (live_now (step ∷ past)) → ZonesStand old sensors past → IsSet old acting sensors_now new
    → ZonesStand new sensors_now (step ∷ past)
zones_set old new sensors sensors_now step past acting legal still same_controls same_zones same_fans stands set =
    stands_then step past legal old sensors stands still sensors_now new acting same_controls same_zones same_fans set
