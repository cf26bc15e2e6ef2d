-- A FRU that goes away is noted, and the zones are set to what is live then.
use Rattle.std.proofs.Common.{◌≡◌, ◌≤◌, Err, List, Ok, Option, length, refl, subst, subst₂, sym, true}
use Rattle.std.specs.List.{All}
use Rattle.cfg_json.specs.Configs.{IsValidConfig}
use Rattle.fan_zone.specs.Settings.{CanSet}
use Rattle.inventory.specs.Items.{live}
use Rattle.live_sensors.specs.Sensors.{LiveSensors}
use Rattle.sensor_core.specs.Sensors.{Sensor}
use Rattle.bmc_machine.specs.Histories.{Unplug}
use Rattle.bmc_watch.specs.Watches.{WatchView, view_items}
use Rattle.bmc_core.specs.Acting.{AreRenewed, MayStay, acting, most_acting}
use Rattle.bmc_core.specs.Acts.{StateApplies}
use Rattle.bmc_core.specs.Health.{IsTrueOf}
use Rattle.bmc_core.specs.States.{StateView}
use Rattle.bmc_core.proofs.StateLemmas.{bank_kept, can_take, few_acting, happened, known_after, not_done, slots_left, state_next}
use Rattle.bmc_core.proofs.state.State.unplug.Goals as goal

pub renew_zones-left-requires-clause-few : goal.renew_zones-left-requires-clause-few
renew_zones-left-requires-clause-few g c =
    let old : StateView = record { senses = c.self.inside.senses; zones = c.self.inside.zones; strict = c.self.inside.strict } in
    subst (λ (watch : WatchView). length (acting (live (view_items watch))) ≤ most_acting) (sym c.watch.ensures)
    (few_acting old (Unplug c.args.place) c.unplug.new.self refl refl c.in-Ok.ensures.notes c.self.invariant.0)

pub renew_zones-left-requires-clause-fit : goal.renew_zones-left-requires-clause-fit
renew_zones-left-requires-clause-fit g c =
    let old : StateView = record { senses = c.self.inside.senses; zones = c.self.inside.zones; strict = c.self.inside.strict } in
    subst (λ (watch : WatchView). All IsValidConfig watch.configs → CanSet c.self.inside.zones (acting (live (view_items watch)))) (sym c.watch.ensures)
    (can_take old (Unplug c.args.place) c.unplug.new.self refl refl c.in-Ok.ensures.notes c.self.invariant.0)

pub invariant_of-self : goal.invariant_of-self
invariant_of-self g c =
    let old : StateView = record { senses = c.self.inside.senses; zones = c.self.inside.zones; strict = c.self.inside.strict } in
    let new : StateView = record { senses = c.unplug.new.self; zones = c.renew_zones-left.new.zones; strict = c.self.inside.strict } in
    let renewed : AreRenewed c.self.inside.zones c.unplug.new.self.watch c.unplug.new.self.sensors c.renew_zones-left.new.zones =
    subst₂ (λ (watch : WatchView) (sensors : LiveSensors). AreRenewed c.self.inside.zones watch sensors c.renew_zones-left.new.zones)
    c.watch.ensures c.sensors.ensures c.renew_zones-left.ensures.renewed in (
      state_next old new (Unplug c.args.place) (Ok tt) c.self.invariant.0
          (happened old (Unplug c.args.place) c.unplug.new.self refl refl c.in-Ok.ensures.notes c.in-Ok.ensures.slots c.renew_zones-left.new.zones renewed)
          (bank_kept c.self.inside.zones c.renew_zones-left.new.zones c.unplug.new.self.watch c.unplug.new.self.sensors renewed c.self.invariant.0.enough),
      subst (IsTrueOf c.unplug.new.self.sensors.slots c.renew_zones-left.new.zones.held) (sym c.after_event-self-inside.ensures)
          (known_after old (Unplug c.args.place) c.unplug.new.self refl refl c.in-Ok.ensures.notes (λ name tick. refl) c.in-Ok.ensures.slots
          c.self.invariant.0 c.renew_zones-left.new.zones c.renew_zones-left.result
          (subst (λ (watch : WatchView). c.renew_zones-left.result ≡ true → MayStay c.self.inside.zones watch
          × (c.renew_zones-left.new.zones ≡ c.self.inside.zones)) c.watch.ensures c.renew_zones-left.ensures.left) c.self.inside.health c.self.invariant.1),
    )

pub invariant_of-self-in-Err : goal.invariant_of-self-in-Err
invariant_of-self-in-Err g c =
    let old : StateView = record { senses = c.self.inside.senses; zones = c.self.inside.zones; strict = c.self.inside.strict } in
    let new : StateView = record { senses = c.unplug.new.self; zones = c.self.inside.zones; strict = c.self.inside.strict } in (
      state_next old new (Unplug c.args.place) (Err c.in-Err.fault) c.self.invariant.0
          (not_done old new (Unplug c.args.place) c.in-Err.fault c.in-Err.ensures.notes refl refl)
          c.self.invariant.0.enough,
      subst (λ (slots : List (Option Sensor)). IsTrueOf slots c.self.inside.zones.held c.self.inside.health)
          (sym (slots_left c.self.inside.senses c.unplug.new.self (Unplug c.args.place) c.in-Err.fault c.in-Err.ensures.notes)) c.self.invariant.1,
    )

pub returns-in-Ok-clause-applies : goal.returns-in-Ok-clause-applies
returns-in-Ok-clause-applies g c =
    let old : StateView = record { senses = c.self.inside.senses; zones = c.self.inside.zones; strict = c.self.inside.strict } in
    let new : StateView = record { senses = c.unplug.new.self; zones = c.renew_zones-left.new.zones; strict = c.self.inside.strict } in
    let renewed : AreRenewed c.self.inside.zones c.unplug.new.self.watch c.unplug.new.self.sensors c.renew_zones-left.new.zones =
    subst₂ (λ (watch : WatchView) (sensors : LiveSensors). AreRenewed c.self.inside.zones watch sensors c.renew_zones-left.new.zones)
    c.watch.ensures c.sensors.ensures c.renew_zones-left.ensures.renewed in
    subst (λ (state : StateView). StateApplies state (Unplug c.args.place) (Ok tt) new) c.self.view_is
    (happened old (Unplug c.args.place) c.unplug.new.self refl refl c.in-Ok.ensures.notes c.in-Ok.ensures.slots c.renew_zones-left.new.zones renewed)

pub returns-in-Err-clause-applies : goal.returns-in-Err-clause-applies
returns-in-Err-clause-applies g c =
    let old : StateView = record { senses = c.self.inside.senses; zones = c.self.inside.zones; strict = c.self.inside.strict } in
    let new : StateView = record { senses = c.unplug.new.self; zones = c.self.inside.zones; strict = c.self.inside.strict } in
    subst (λ (state : StateView). StateApplies state (Unplug c.args.place) (Err c.in-Err.fault) new) c.self.view_is
    (not_done old new (Unplug c.args.place) c.in-Err.fault c.in-Err.ensures.notes refl refl)
