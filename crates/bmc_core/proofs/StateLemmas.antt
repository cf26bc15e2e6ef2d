-- What each act leaves of a state: what it leaves of the senses, and of the zones.
use Rattle.std.proofs.Common.{◌≡◌, ◌≤◌, ◌∙◌, ℕ, List, ◌∷◌, ◌||◌, Bool, true, false, Ok, Err, refl, ap, ap₂, sym, subst, arith, length, inl, inr}
use Rattle.std.proofs.Common.{[], bytes_eq, map, true≢false, Option, Some, None, option_and_then, slice_index_or}
use Rattle.std.specs.Prelude.{⊤, Result}
use mathlib.Core.List.{map-map}
use Rattle.std.specs.List.{All, AllByRecursion, list_any}
use Rattle.cfg_json.specs.Configs.{IsValidConfig}
use Rattle.cfg_json.specs.declared.item.Item.{Item}
use Rattle.inventory.specs.Items.{items_less, live}
use Rattle.inventory.proofs.ListLemmas.{all_any}
use Rattle.bmc_report.specs.declared.change.Change.{Change}
use Rattle.bmc_report.specs.declared.refusal.Refusal.{Refusal}
use Rattle.live_sensors.specs.Items.{has_sensor}
use Rattle.live_sensors.specs.Sensors.{LiveSensors, sensor_in, slot_of}
use Rattle.sensor_core.specs.Sensors.{Sensor}
use Rattle.ctl_face.specs.Seen.{Seen}
use Rattle.fan_zone.specs.Inputs.{has_bad, has_bad_input, sensor_of}
use Rattle.fan_zone.specs.IsSets.{IsSet, Paired}
use Rattle.fan_zone.specs.Live.{LiveControl, LiveZone, controls, fans, zones}
use Rattle.fan_zone.specs.Sets.{held_of, seat_of}
use Rattle.fan_zone.specs.declared.held.Held.{Held}
use Rattle.fan_zone.specs.declared.rows.ZoneRow.{ZoneRow}
use Rattle.fan_zone.specs.Steady.{has_bad_input_now}
use Rattle.fan_zone.specs.Settings.{CanSet, HasZone}
use Rattle.fan_zone.specs.Ticks.{ZonesView}
use Rattle.fan_zone.proofs.ActsLemmas.{controls_acting, fans_acting, length_acting, zones_acting}
use Rattle.bmc_machine.specs.Answers.{past_refused}
use Rattle.bmc_machine.specs.Banks.{AreFit, HasBank}
use Rattle.bmc_machine.specs.Histories.{Step, Start, Configure, Plug, RefusedPlug, Unplug, Read, Lose, Tick, asks_strict, is_idle_step, is_strict, is_tick}
use Rattle.bmc_machine.specs.Changes.{concerns_zones}
use Rattle.bmc_machine.specs.Indexes.{live_now}
use Rattle.bmc_machine.specs.Lives.{IsNoOutcome}
use Rattle.bmc_machine.specs.Zones.{Holds, ZonesStand}
use Rattle.bmc_machine.proofs.BankLemmas.{bank_kept_by_set, can_set}
use Rattle.bmc_machine.proofs.FitLemmas.{fit, fit_alike}
use Rattle.bmc_machine.specs.Turns.{zone_now}
use Rattle.bmc_machine.proofs.LiveItemLemmas.{placed}
use Rattle.bmc_machine.proofs.LiveLimitLemmas.{few_controls, few_fans, few_zones}
use Rattle.bmc_machine.proofs.SettingLemmas.{zones_set}
use Rattle.bmc_machine.proofs.SettledLemmas.{sensor_kept}
use Rattle.bmc_machine.proofs.StillLemmas.{AreApart, HasAlikeInputs, acting_stays, inputs_have, inputs_stay, told_apart}
use Rattle.bmc_machine.proofs.WaitingLemmas.{KeepsInputs, paired_with, zones_stay, zones_wait}
use Rattle.bmc_watch.specs.Watches.{WatchView, view_items}
use Rattle.bmc_watch.proofs.WatchesLemmas.{live_is}
use Rattle.bmc_core.specs.Acting.{AreRenewed, MayStay, acting, most_acting}
use Rattle.bmc_core.specs.Acts.{StateApplies, Notes, TakesMemory}
use Rattle.bmc_core.specs.Health.{IsTrueOf, health_after_event}
use Rattle.bmc_core.specs.States.{StateView, IsState, StateStands}
use Rattle.bmc_core.specs.Senses.{KeepsSlots, SensesStand, SensesView}
use Rattle.bmc_core.specs.declared.fault.CoreFault.{CoreFault}
use Rattle.bmc_core.specs.declared.input_health.InputHealth.{InputHealth}
use Rattle.bmc_core.proofs.HealthLemmas.{true_alike}
use Rattle.bmc_core.specs.declared.fault.CoreFault.TheVariants.{Refused, OutOfMemory}

-- ---- what a step leaves of strictness, and of zones that wait

strict_next : (past : List Step) (step : Step) → asks_strict step ≡ false → is_strict (step ∷ past) ≡ is_strict past
strict_next past step not = ap (λ (asks : Bool). asks || is_strict past) not

strict_refused : (past : List Step) (step : Step) (refusal : Refusal) → is_strict (past_refused past step refusal) ≡ is_strict past
strict_refused past (Start options) refusal = refl
strict_refused past (Configure config) refusal = refl
strict_refused past (Plug place bytes) refusal = refl
strict_refused past (RefusedPlug place bytes reason) refusal = refl
strict_refused past (Unplug place) refusal = refl
strict_refused past (Read name raw) refusal = refl
strict_refused past (Lose name) refusal = refl
strict_refused past Tick refusal = refl

-- zones stand as well where the names of the sensors keep their slots
zones_same : (view : ZonesView) (sensors now : LiveSensors) (past : List Step) → now.names ≡ sensors.names → ZonesStand view sensors past
    → ZonesStand view now past
zones_same view sensors now past names stands = record {
  zone_plans = stands.zone_plans;
  zone_rows = stands.zone_rows;
  fan_plans = stands.fan_plans;
  fan_rows = stands.fan_rows;
  held = paired_with (λ (control : LiveControl). ⊤) (Holds view.zone_rows sensors view.bank past) (Holds view.zone_rows now view.bank past)
      (controls (live_now past)) view.held renamed (all_any _ (λ (control : LiveControl). tt) (controls (live_now past))) stands.held;
  apart = stands.apart;
  others = stands.others;
}
  where
    renamed : (control : LiveControl) (held : Held) → ⊤ → Holds view.zone_rows sensors view.bank past control held
        → Holds view.zone_rows now view.bank past control held
    renamed control held any holds = record {
      names =
          holds.names
          ∙ ap (λ (names : List (List ℕ × ℕ)). held_of view.zone_rows (record { names = names; slots = sensors.slots; room = sensors.room }) control
          (seat_of held)) (sym names);
      age = holds.age;
      box = holds.box;
    }

-- zones wait while a step is refused, where the names of the sensors keep their slots
zones_refused : (view : ZonesView) (sensors now : LiveSensors) (past : List Step) (step : Step) (refusal : Refusal) → now.names ≡ sensors.names
    → ZonesStand view sensors past → ZonesStand view now (past_refused past step refusal)
zones_refused view sensors now past (Plug place bytes) refusal names stands =
    zones_wait view sensors now (RefusedPlug place bytes refusal) past refl refl names stands
zones_refused view sensors now past (Start options) refusal names stands = zones_same view sensors now past names stands
zones_refused view sensors now past (Configure config) refusal names stands = zones_same view sensors now past names stands
zones_refused view sensors now past (RefusedPlug place bytes reason) refusal names stands = zones_same view sensors now past names stands
zones_refused view sensors now past (Unplug place) refusal names stands = zones_same view sensors now past names stands
zones_refused view sensors now past (Read name raw) refusal names stands = zones_same view sensors now past names stands
zones_refused view sensors now past (Lose name) refusal names stands = zones_same view sensors now past names stands
zones_refused view sensors now past Tick refusal names stands = zones_same view sensors now past names stands

-- ---- an act that leaves the zones

-- the names of the sensors keep their slots where a step is not done
names_left : (old new : SensesView) (step : Step) (fault : CoreFault) → Notes old step (Err fault) new → new.sensors.names ≡ old.sensors.names
names_left old new step (Refused refusal) notes = ap (λ (senses : SensesView). senses.sensors.names) notes.left
names_left old new step OutOfMemory notes = notes.left.1.sensors.names

-- and so do the sensors in them
pub slots_left : (old new : SensesView) (step : Step) (fault : CoreFault) → Notes old step (Err fault) new → new.sensors.slots ≡ old.sensors.slots
slots_left old new step (Refused refusal) notes = ap (λ (senses : SensesView). senses.sensors.slots) notes.left
slots_left old new step OutOfMemory notes = notes.left.1.sensors.slots

-- an act that is not done leaves the zones
pub not_done : (old new : StateView) (step : Step) (fault : CoreFault) → Notes old.senses step (Err fault) new.senses → new.zones ≡ old.zones
    → new.strict ≡ old.strict → StateApplies old step (Err fault) new
not_done old new step (Refused refusal) notes zones strict = record {
  stands = λ past stood.
      let noted = notes.stand past stood.senses in (
        noted.0,
        record {
          senses = noted.1;
          zones = subst (λ (view : ZonesView). ZonesStand view new.senses.sensors (past_refused past step refusal)) (sym zones)
              (zones_refused old.zones old.senses.sensors new.senses.sensors past step refusal
              (names_left old.senses new.senses step (Refused refusal) notes) stood.zones);
          strict = strict ∙ stood.strict ∙ sym (strict_refused past step refusal);
        },
      );
  left = λ i. record { senses = notes.left i; zones = zones i; strict = strict i };
}
not_done old new step OutOfMemory notes zones strict = record {
  stands = λ past stood. record {
    senses = notes.stand past stood.senses;
    zones = subst (λ (view : ZonesView). ZonesStand view new.senses.sensors past) (sym zones)
        (zones_same old.zones old.senses.sensors new.senses.sensors past (names_left old.senses new.senses step OutOfMemory notes) stood.zones);
    strict = strict ∙ stood.strict;
  };
  left = (notes.left.0, record { senses = notes.left.1; zones = zones; strict = strict });
}

-- a reading and a loss leave the zones, done or not
pub sensed : (old new : StateView) (step : Step) (result : Result ⊤ CoreFault) → is_idle_step step ≡ true → is_tick step ≡ false → asks_strict step ≡ false
    → Notes old.senses step result new.senses → new.senses.sensors.names ≡ old.senses.sensors.names → new.zones ≡ old.zones → new.strict ≡ old.strict
    → StateApplies old step result new
sensed old new step (Err fault) idle still plain notes names zones strict = not_done old new step fault notes zones strict
sensed old new step (Ok done) idle still plain notes names zones strict = record {
  stands = λ past stood.
      let noted = notes.stand past stood.senses in (
        noted.0,
        record {
          senses = noted.1;
          zones = subst (λ (view : ZonesView). ZonesStand view new.senses.sensors (step ∷ past)) (sym zones)
              (zones_wait old.zones old.senses.sensors new.senses.sensors step past idle still names stood.zones);
          strict = strict ∙ stood.strict ∙ sym (strict_next past step plain);
        },
        noted.2,
      );
  left = tt;
}

-- ---- without a zone there is no controller

none_mapped : {X Y : Type 0} (image : X → Y) (xs : List X) → map image xs ≡ [] → xs ≡ []
none_mapped image [] none = refl
none_mapped image (x ∷ xs) none = absurd (cc)

no_controls : (past : List Step) → zones (live_now past) ≡ [] → controls (live_now past) ≡ []
no_controls past none = by (controls (live_now past)) (placed past)
  where
    by : (some : List LiveControl) → All (HasZone (live_now past)) some → some ≡ []
    by [] all = refl
    by (control ∷ more) all =
        let has : list_any (λ (zone : LiveZone). bytes_eq zone.name control.item.zone) (zones (live_now past)) ≡ true = all 0 control (omega arith) in
        absurd (true≢false (sym has ∙ ap (list_any (λ (zone : LiveZone). bytes_eq zone.name control.item.zone)) none))

-- ---- what controllers see of their inputs

-- the sensor in the slot of a name is that of the name
in_slot : (sensors : LiveSensors) (name : List ℕ) → sensor_of sensors.slots (slot_of sensors name) ≡ sensor_in sensors name
in_slot sensors name = of (slot_of sensors name)
  where
    of : (slot : Option ℕ) → sensor_of sensors.slots slot ≡ option_and_then (λ (n : ℕ). slice_index_or sensors.slots n None) slot
    of None = refl
    of (Some slot) = refl

-- where the inputs of all controllers have the sensors that they had, they are bad at the same ticks
held_see : (rows : List ZoneRow) (sensors : LiveSensors) (bank : List Seen) (past : List Step) (before now : List (Option Sensor)) (later : ℕ)
    (controls : List LiveControl) (held : List Held)
    → AllByRecursion (HasAlikeInputs (λ name. sensor_of now (slot_of sensors name)) (λ name. sensor_of before (slot_of sensors name))) controls
    → Paired (Holds rows sensors bank past) controls held → has_bad_input_now now later held ≡ has_bad_input_now before later held
held_see rows sensors bank past before now later [] [] alike holds = refl
held_see rows sensors bank past before now later [] (one ∷ more) alike holds = absurd holds
held_see rows sensors bank past before now later (control ∷ controls) [] alike holds = absurd holds
held_see rows sensors bank past before now later (control ∷ controls) (one ∷ more) alike holds =
    let inputs : one.inputs ≡ map (slot_of sensors) control.item.inputs = ap (λ (it : Held). it.inputs) holds.0.names in
    let seen : map (sensor_of now) (map (slot_of sensors) control.item.inputs) ≡ map (sensor_of before) (map (slot_of sensors) control.item.inputs) =
    map-map (sensor_of now) (slot_of sensors) control.item.inputs
    ∙ (alike.0 ∙ sym (map-map (sensor_of before) (slot_of sensors) control.item.inputs)) in
    ap₂ (λ (bad others : Bool). bad || others)
    (ap (has_bad_input now later) inputs ∙ (ap (has_bad later) seen ∙ sym (ap (has_bad_input before later) inputs)))
    (held_see rows sensors bank past before now later controls more alike.1 holds.1)

-- ---- an event, after which the zones are set to the live items

module _ (old : StateView) (step : Step) (new : SensesView) (still : is_tick step ≡ false) (plain : asks_strict step ≡ false)
    (notes : Notes old.senses step (Ok tt) new) where
  abbrev pub those : List Item
  those = acting (live (view_items new.watch))

  module _ (past : List Step) (stood : StateStands old past) where
    stands_then : SensesStand new (step ∷ past)
    stands_then = (notes.stand past stood.senses).1

    are_live : live (view_items new.watch) ≡ live_now (step ∷ past)
    are_live = live_is new.watch (step ∷ past) stands_then.watch

    same_controls : controls those ≡ controls (live_now (step ∷ past))
    same_controls = controls_acting (live (view_items new.watch)) ∙ ap controls are_live

    same_zones : zones those ≡ zones (live_now (step ∷ past))
    same_zones = zones_acting (live (view_items new.watch)) ∙ ap zones are_live

    same_fans : fans those ≡ fans (live_now (step ∷ past))
    same_fans = fans_acting (live (view_items new.watch)) ∙ ap fans are_live

    fits : All IsValidConfig new.watch.configs → AreFit those
    fits valid =
        fit_alike (live_now (step ∷ past)) those same_controls same_zones same_fans
        (fit (step ∷ past) stands_then.watch.legal (subst (All IsValidConfig) stands_then.watch.configs valid))

    few : length those ≤ most_acting
    few =
        let legal = stands_then.watch.legal in
        let all = length_acting (live (view_items new.watch)) in
        let zones_few = few_zones (step ∷ past) legal in
        let fans_few = few_fans (step ∷ past) legal in
        let controls_few = few_controls (step ∷ past) legal in
        let zones_are : length (zones (live (view_items new.watch))) ≡ length (zones (live_now (step ∷ past))) =
        ap (λ (items : List Item). length (zones items)) are_live in
        let fans_are : length (fans (live (view_items new.watch))) ≡ length (fans (live_now (step ∷ past))) =
        ap (λ (items : List Item). length (fans items)) are_live in
        let controls_are : length (controls (live (view_items new.watch))) ≡ length (controls (live_now (step ∷ past))) =
        ap (λ (items : List Item). length (controls items)) are_live in
        omega (arith, all, zones_few, fans_few, controls_few, zones_are, fans_are, controls_are)

  -- there is room to gather them
  pub few_acting : IsState old → length those ≤ most_acting
  few_acting state = few state.past state.stands

  -- and the zones can take them
  pub can_take : IsState old → All IsValidConfig new.watch.configs → CanSet old.zones those
  can_take state valid =
      can_set old.zones old.senses.sensors step state.past those (stands_then state.past state.stands).watch.legal (same_controls state.past state.stands)
      state.stands.zones state.enough (fits state.past state.stands valid)

  -- the zones after the longer history, where they are set
  set_stands : (past : List Step) → StateStands old past → (view : ZonesView) → IsSet old.zones those new.sensors view
      → ZonesStand view new.sensors (step ∷ past)
  set_stands past stood view set =
      zones_set old.zones view old.senses.sensors new.sensors step past those (stands_then past stood).watch.legal still (same_controls past stood)
      (same_zones past stood) (same_fans past stood) stood.zones set

  -- nothing with which zones have to do goes or comes, where the last changes tell of none
  apart_now : (past : List Step) → StateStands old past → list_any (concerns_zones (live (view_items new.watch))) new.watch.changes ≡ false
      → AreApart (live_now (step ∷ past)) (live_now past) (live_now (step ∷ past))
  apart_now past stood none =
      told_apart (live_now (step ∷ past)) step past
      (ap₂ (λ (items : List Item) (told : List Change). list_any (concerns_zones items) told) (sym (are_live past stood))
      (sym (notes.stand past stood.senses).2)
      ∙ none)

  -- a name keeps its slot where no sensor of the name goes or comes
  slot_kept : KeepsSlots (Ok tt) old.senses new → (past : List Step) → StateStands old past → (name : List ℕ)
      → has_sensor name (items_less (live_now past) (live_now (step ∷ past))) ≡ false
      → has_sensor name (items_less (live_now (step ∷ past)) (live_now past)) ≡ false → slot_of new.sensors name ≡ slot_of old.senses.sensors name
  slot_kept keeps past stood name gone fresh =
      let was = live_is old.senses.watch past stood.senses.watch in
      let is = are_live past stood in
      keeps name (ap (has_sensor name) (ap₂ items_less was is) ∙ gone) (ap (has_sensor name) (ap₂ items_less is was) ∙ fresh)

  -- what acts in zones stays, and so do inputs, where the last changes tell of nothing with which zones have to do
  unasked : KeepsSlots (Ok tt) old.senses new → (past : List Step) → StateStands old past
      → list_any (concerns_zones (live (view_items new.watch))) new.watch.changes ≡ false → ZonesStand old.zones new.sensors (step ∷ past)
  unasked keeps past stood none =
      let then = stands_then past stood in
      let apart = apart_now past stood none in
      let kept = acting_stays (live_now (step ∷ past)) step past then.watch.legal apart in
      let inputs = inputs_stay old.senses.sensors new.sensors (live_now (step ∷ past)) (live_now past) (live_now (step ∷ past)) apart
      (slot_kept keeps past stood) in
      zones_stay old.zones old.senses.sensors new.sensors step past still kept
      (subst (AllByRecursion (KeepsInputs old.senses.sensors new.sensors))
      (sym (controls_acting (live_now (step ∷ past))) ∙ ap controls kept ∙ controls_acting (live_now past)) inputs)
      stood.zones

  -- nor where there is no zone, and so no controller
  zoneless : (past : List Step) → StateStands old past → old.zones.zone_rows ≡ [] → list_any (concerns_zones []) new.watch.changes ≡ false
      → ZonesStand old.zones new.sensors (step ∷ past)
  zoneless past stood empty none =
      let then = stands_then past stood in
      let told = ap (list_any (concerns_zones [])) (sym (notes.stand past stood.senses).2) ∙ none in
      let kept = acting_stays [] step past then.watch.legal (told_apart [] step past told) in
      zones_stay old.zones old.senses.sensors new.sensors step past still kept
      (subst (AllByRecursion (KeepsInputs old.senses.sensors new.sensors))
      (sym (no_controls past (none_mapped (zone_now past) (zones (live_now past)) (sym stood.zones.zone_rows ∙ empty)))) tt)
      stood.zones

  -- and where they may stay
  stay_stand : KeepsSlots (Ok tt) old.senses new → (past : List Step) → StateStands old past → MayStay old.zones new.watch
      → ZonesStand old.zones new.sensors (step ∷ past)
  stay_stand keeps past stood (inl none) = unasked keeps past stood none
  stay_stand keeps past stood (inr (empty, none)) = zoneless past stood empty none

  -- a name sees the sensor in its slot as before, where no sensor of the name goes or comes
  seen_kept : IsNoOutcome step → KeepsSlots (Ok tt) old.senses new → (past : List Step) → StateStands old past → (name : List ℕ)
      → has_sensor name (items_less (live_now past) (live_now (step ∷ past))) ≡ false
      → has_sensor name (items_less (live_now (step ∷ past)) (live_now past)) ≡ false
      → sensor_of new.sensors.slots (slot_of old.senses.sensors name) ≡ sensor_of old.senses.sensors.slots (slot_of old.senses.sensors name)
  seen_kept watched keeps past stood name gone fresh =
      let then = stands_then past stood in
      ap (sensor_of new.sensors.slots) (sym (slot_kept keeps past stood name gone fresh))
      ∙ (in_slot new.sensors name
      ∙ (then.sensors name
      ∙ (sensor_kept past step then.watch.legal watched name gone fresh
      ∙ (sym (stood.senses.sensors name) ∙ sym (in_slot old.senses.sensors name)))))

  -- and where zones may stay, so do the inputs of all controllers
  all_seen : IsNoOutcome step → KeepsSlots (Ok tt) old.senses new → (past : List Step) → StateStands old past → MayStay old.zones new.watch
      → AllByRecursion (HasAlikeInputs (λ name. sensor_of new.sensors.slots (slot_of old.senses.sensors name))
      (λ name. sensor_of old.senses.sensors.slots (slot_of old.senses.sensors name))) (controls (live_now past))
  all_seen watched keeps past stood (inl none) =
      let then = stands_then past stood in
      let apart = apart_now past stood none in
      let kept = acting_stays (live_now (step ∷ past)) step past then.watch.legal apart in
      let seen = inputs_have (λ name. sensor_of new.sensors.slots (slot_of old.senses.sensors name))
      (λ name. sensor_of old.senses.sensors.slots (slot_of old.senses.sensors name)) (live_now (step ∷ past)) (live_now past) (live_now (step ∷ past)) apart
      (seen_kept watched keeps past stood) in
      subst (AllByRecursion (HasAlikeInputs (λ name. sensor_of new.sensors.slots (slot_of old.senses.sensors name))
      (λ name. sensor_of old.senses.sensors.slots (slot_of old.senses.sensors name))))
      (sym (controls_acting (live_now (step ∷ past))) ∙ ap controls kept ∙ controls_acting (live_now past)) seen
  all_seen watched keeps past stood (inr (empty, none)) =
      subst (AllByRecursion (HasAlikeInputs (λ name. sensor_of new.sensors.slots (slot_of old.senses.sensors name))
      (λ name. sensor_of old.senses.sensors.slots (slot_of old.senses.sensors name))))
      (sym (no_controls past (none_mapped (zone_now past) (zones (live_now past)) (sym stood.zones.zone_rows ∙ empty)))) tt

  -- what is known of inputs stays true where the zones were left
  pub known_after : IsNoOutcome step → KeepsSlots (Ok tt) old.senses new → IsState old → (view : ZonesView) (left : Bool)
      → (left ≡ true → MayStay old.zones new.watch × (view ≡ old.zones)) → (health : InputHealth)
      → IsTrueOf old.senses.sensors.slots old.zones.held health → IsTrueOf new.sensors.slots view.held (health_after_event health left)
  known_after watched keeps state view false left health is = tt
  known_after watched keeps state view true left health is =
      let stood = state.stands in
      subst (λ (zones : ZonesView). IsTrueOf new.sensors.slots zones.held health) (sym (left refl).1)
      (true_alike old.senses.sensors.slots new.sensors.slots old.zones.held health
      (λ later.
      held_see old.zones.zone_rows old.senses.sensors old.zones.bank state.past old.senses.sensors.slots new.sensors.slots later
      (controls (live_now state.past)) old.zones.held (all_seen watched keeps state.past stood (left refl).0) stood.zones.held)
      is)

  -- then the state stands for the longer history
  pub happened : KeepsSlots (Ok tt) old.senses new → (view : ZonesView) → AreRenewed old.zones new.watch new.sensors view
      → StateApplies old step (Ok tt) (record { senses = new; zones = view; strict = old.strict })
  happened keeps view renewed = record {
    stands = λ past stood.
        let noted = notes.stand past stood.senses in (
          noted.0,
          record { senses = noted.1; zones = by past stood renewed; strict = stood.strict ∙ sym (strict_next past step plain) },
          noted.2,
        );
    left = tt;
  }
    where
      by : (past : List Step) → StateStands old past → AreRenewed old.zones new.watch new.sensors view → ZonesStand view new.sensors (step ∷ past)
      by past stood (inl set) = set_stands past stood view set
      by past stood (inr (stay, same)) =
          subst (λ (zones : ZonesView). ZonesStand zones new.sensors (step ∷ past)) (sym same) (stay_stand keeps past stood stay)

-- a bank that is enough stays enough
pub bank_kept : (old view : ZonesView) (watch : WatchView) (sensors : LiveSensors) → AreRenewed old watch sensors view → HasBank old.bank
    → HasBank view.bank
bank_kept old view watch sensors (inl set) enough = bank_kept_by_set old view sensors _ set enough
bank_kept old view watch sensors (inr (stay, same)) enough = subst (λ (zones : ZonesView). HasBank zones.bank) (sym same) enough

-- ---- each state stands for a history

-- an act leaves a state, whether it is done or not
pub state_next : (old new : StateView) (step : Step) (result : Result ⊤ CoreFault) → IsState old → StateApplies old step result new
    → HasBank new.zones.bank → IsState new
state_next old new step (Ok done) state applies bank =
    let then = applies.stands state.past state.stands in
    record { past = step ∷ state.past; stands = then.1; enough = bank }
state_next old new step (Err (Refused refusal)) state applies bank =
    let then = applies.stands state.past state.stands in
    record { past = past_refused state.past step refusal; stands = then.1; enough = bank }
state_next old new step (Err OutOfMemory) state applies bank =
    record { past = state.past; stands = applies.stands state.past state.stands; enough = bank }

-- memory is wanting before an event
pub not_begun : (old : StateView) (step : Step) → TakesMemory step → StateApplies old step (Err OutOfMemory) old
not_begun old step takes = record {
  stands = λ past stood. stood;
  left = (
    takes,
    record {
      senses = record {
        watch = record { configs = refl; entries = refl; plugged = refl; kept = λ number. refl; changes = refl };
        sensors = record { names = refl; slots = refl };
        ticks = refl;
      };
      zones = refl;
      strict = refl;
    },
  );
}
