-- A tick is counted, the zones tick, and what they show is told.
use Rattle.std.proofs.Common.{◌≡◌, ◌∙◌, false, List, map, Ok, Option, ap, subst, sym}
use Rattle.sensor_core.specs.Sensors.{Sensor}
use Rattle.fan_zone.specs.Steady.{has_bad_input_now}
use Rattle.fan_zone.specs.Ticks.{ZonesView, aged, ticked}
use Rattle.live_sensors.specs.Sensors.{LiveSensors}
use Rattle.bmc_machine.specs.Histories.{Tick}
use Rattle.bmc_watch.specs.Panels.{panel_of}
use Rattle.bmc_core.specs.Acts.{StateApplies}
use Rattle.bmc_core.specs.States.{StateView, IsState, ticked_state}
use Rattle.bmc_core.specs.Failsafe.{IsFailsafe}
use Rattle.bmc_core.specs.Health.{IsTrueOf}
use Rattle.bmc_core.specs.Senses.{SensesView}
use Rattle.bmc_core.proofs.FailsafeLemmas.{always_failsafe}
use Rattle.bmc_core.proofs.HealthLemmas.{good_inputs, true_aged}
use Rattle.bmc_core.proofs.TickedLemmas.{state_ticked, is_ticked, tick_applies}
use Rattle.bmc_core.proofs.state.State.tick.Goals as goal

pub note-requires-clause-zones : goal.note-requires-clause-zones
note-requires-clause-zones g c = c.zone_rows.ensures.few

pub note-requires-clause-fans : goal.note-requires-clause-fans
note-requires-clause-fans g c = c.fan_rows.ensures.few

pub tell_tick-requires-clause-zones : goal.tell_tick-requires-clause-zones
tell_tick-requires-clause-zones g c = c.zone_rows-2.ensures.few

pub tell_tick-requires-clause-fans : goal.tell_tick-requires-clause-fans
tell_tick-requires-clause-fans g c = c.fan_rows-2.ensures.few

pub tick-requires : goal.tick-requires
tick-requires g c =
    let slots = c.table-sensors.ensures ∙ ap (λ (sensors : LiveSensors). sensors.slots) c.sensors.ensures
    ∙ ap (λ (senses : SensesView). senses.sensors.slots) c.count_tick.ensures in
    record {
      good = λ good.
          subst (λ (slots : List (Option Sensor)). has_bad_input_now slots c.ticks-now.result c.self.inside.zones.held ≡ false) (sym slots)
          (good_inputs c.self.inside.senses.sensors.slots c.self.inside.zones.held c.self.inside.health c.ticks-now.result c.self.invariant.1
          (sym c.is_good_at-good.ensures ∙ good));
    }

pub health_after-self-inside-requires : goal.health_after-self-inside-requires
health_after-self-inside-requires g c =
    let old = c.self.inside.zones in
    let known = c.self.inside.health in
    let slots = c.table-sensors.ensures ∙ ap (λ (sensors : LiveSensors). sensors.slots) c.sensors.ensures
    ∙ ap (λ (senses : SensesView). senses.sensors.slots) c.count_tick.ensures in
    subst (λ (zones : ZonesView). IsTrueOf c.table-sensors.result.now.slots zones.held known) (sym c.tick.ensures.ticked)
    (subst (λ (slots : List (Option Sensor)). IsTrueOf slots (map aged old.held) known) (sym slots)
    (true_aged c.self.inside.senses.sensors.slots old.held known c.self.invariant.1))

-- the state is the one that the tick gives
exactly : (g : _) (c : goal.After-tell_tick g)
    → record { senses = c.tell_tick.new.self; zones = c.tick.new.self; strict = c.self.inside.strict }
    ≡ ticked_state (record { senses = c.self.inside.senses; zones = c.self.inside.zones; strict = c.self.inside.strict })
exactly g c =
    let old : StateView = record { senses = c.self.inside.senses; zones = c.self.inside.zones; strict = c.self.inside.strict } in
    let slots = c.table-sensors.ensures ∙ ap (λ (sensors : LiveSensors). sensors.slots) c.sensors.ensures
    ∙ ap (λ (senses : SensesView). senses.sensors.slots) c.count_tick.ensures in
    let now = c.ticks-now.ensures ∙ ap (λ (senses : SensesView). senses.ticks) c.count_tick.ensures in
    is_ticked old c.count_tick.new.self c.tell_tick.new.self c.tick.new.self c.note.new.self c.zone_rows-2.result.now c.fan_rows-2.result.now (record {
      counts = c.count_tick.ensures;
      ticks = c.tick.ensures.ticked ∙ (λ i. ticked (slots i) (now i) c.self.inside.strict c.self.inside.zones);
      before = c.note.ensures ∙ (λ i. panel_of (c.zone_rows.ensures.rows i) (c.fan_rows.ensures.rows i));
      tells = c.tell_tick.ensures;
      zone_rows_are = c.zone_rows-2.ensures.rows;
      fan_rows_are = c.fan_rows-2.ensures.rows;
    })

pub invariant_of-self : goal.invariant_of-self
invariant_of-self g c = (
  subst IsState (sym (exactly g c)) (state_ticked _ c.self.invariant.0),
  subst (λ (slots : List (Option Sensor)). IsTrueOf slots c.tick.new.self.held c.health_after-self-inside.result)
      (c.table-sensors.ensures ∙ ap (λ (sensors : LiveSensors). sensors.slots) c.sensors.ensures
      ∙ sym (ap (λ (senses : SensesView). senses.sensors.slots) c.tell_tick.ensures)) c.health_after-self-inside.ensures,
)

pub returns-clause-exact : goal.returns-clause-exact
returns-clause-exact g c = exactly g c ∙ ap ticked_state c.self.view_is

pub returns-clause-applies : goal.returns-clause-applies
returns-clause-applies g c =
    let new : StateView = record { senses = c.tell_tick.new.self; zones = c.tick.new.self; strict = c.self.inside.strict } in
    subst (λ (state : StateView). StateApplies state Tick (Ok tt) new) c.self.view_is
    (subst (StateApplies (record { senses = c.self.inside.senses; zones = c.self.inside.zones; strict = c.self.inside.strict }) Tick (Ok tt))
    (sym (exactly g c))
    (tick_applies _))

pub returns-clause-failsafe : goal.returns-clause-failsafe
returns-clause-failsafe g c = subst IsFailsafe (sym (exactly g c)) (always_failsafe _ c.self.invariant.0)
