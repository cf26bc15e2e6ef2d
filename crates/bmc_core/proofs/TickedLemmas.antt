-- What a tick leaves of a state.
use Rattle.std.proofs.Common.{◌≡◌, ◌∙◌, ℕ, List, [], ◌∷◌, ◌++◌, Bool, true, Ok, refl, ap, ap₂, sym, subst, map, cond}
use Rattle.std.specs.List.{AllByRecursion, flat_map, zip}
use Rattle.bmc_base.specs.Counts.{raised}
use Rattle.cfg_json.specs.declared.item.Item.{Item}
use Rattle.bmc_report.specs.declared.change.Change.{Change}
use Rattle.fan_zone.specs.Live.{LiveFan, LiveZone, fans, zones}
use Rattle.fan_zone.specs.Ticks.{ZonesView, ticked}
use Rattle.fan_zone.specs.declared.rows.FanRow.{FanRow}
use Rattle.fan_zone.specs.declared.rows.ZoneRow.{ZoneRow}
use Rattle.bmc_machine.specs.Changes.{changes, changes_of_fan, changes_of_zone, duty_change, mode_change}
use Rattle.bmc_machine.specs.Histories.{Step, Tick}
use Rattle.bmc_machine.specs.Indexes.{live_now}
use Rattle.bmc_machine.specs.Lives.{has_id}
use Rattle.bmc_machine.specs.Refusals.{IsLegal}
use Rattle.bmc_machine.specs.Turns.{fan_now, next_tick, zone_now}
use Rattle.bmc_machine.specs.Zones.{ZonesStand}
use Rattle.bmc_machine.proofs.BankLemmas.{bank_kept_by_tick}
use Rattle.bmc_machine.proofs.IdleLemmas.{live_same}
use Rattle.bmc_machine.proofs.SinceLemmas.{fan_name, zone_name}
use Rattle.bmc_machine.proofs.TickedLemmas.{changes_ticked, fans_there, zones_there, zones_tick}
use Rattle.bmc_watch.specs.Panels.{PanelView, duties_of, modes_of, panel_changes, panel_of, row_duty, row_mode}
use Rattle.bmc_core.specs.Acts.{StateApplies}
use Rattle.bmc_core.specs.States.{StateView, IsState, StateStands, ticked_state, zones_ticked}
use Rattle.bmc_core.specs.Senses.{SensesView}
use Rattle.bmc_core.proofs.NotesLemmas.{last_told, sensors_idle, watch_idle}

-- ---- what is told of rows

module _ (past : List Step) where
  -- what zones show otherwise is told row by row
  modes_told : (all : List LiveZone) → AllByRecursion (λ (zone : LiveZone). has_id (live_now past) zone.id ≡ true) all
      → flat_map row_mode (zip (modes_of (map (zone_now past) all)) (map (zone_now (Tick ∷ past)) all)) ≡ flat_map (changes_of_zone past Tick) all
  modes_told [] there = refl
  modes_told (zone ∷ all) there =
      ap₂ (λ (first later : List Change). first ++ later)
      (ap (λ (name : List ℕ). mode_change name (zone_now past zone).failsafe (zone_now (Tick ∷ past) zone).failsafe) (zone_name (Tick ∷ past) zone)
      ∙ sym (ap (λ (lived : Bool). cond lived (mode_change zone.name (zone_now past zone).failsafe (zone_now (Tick ∷ past) zone).failsafe) []) there.0))
      (modes_told all there.1)

  duties_told : (all : List LiveFan) → AllByRecursion (λ (fan : LiveFan). has_id (live_now past) fan.id ≡ true) all
      → flat_map row_duty (zip (duties_of (map (fan_now past) all)) (map (fan_now (Tick ∷ past)) all)) ≡ flat_map (changes_of_fan past Tick) all
  duties_told [] there = refl
  duties_told (fan ∷ all) there =
      ap₂ (λ (first later : List Change). first ++ later)
      (ap (λ (name : List ℕ). duty_change name (fan_now past fan).duty (fan_now (Tick ∷ past) fan).duty) (fan_name (Tick ∷ past) fan)
      ∙ sym (ap (λ (lived : Bool). cond lived (duty_change fan.name (fan_now past fan).duty (fan_now (Tick ∷ past) fan).duty) []) there.0))
      (duties_told all there.1)

  -- and all of it is what the tick changes
  panel_told : (zone_rows zone_rows_then : List ZoneRow) (fan_rows fan_rows_then : List FanRow)
      → zone_rows ≡ map (zone_now past) (zones (live_now past)) → fan_rows ≡ map (fan_now past) (fans (live_now past))
      → zone_rows_then ≡ map (zone_now (Tick ∷ past)) (zones (live_now (Tick ∷ past)))
      → fan_rows_then ≡ map (fan_now (Tick ∷ past)) (fans (live_now (Tick ∷ past)))
      → panel_changes (panel_of zone_rows fan_rows) zone_rows_then fan_rows_then ≡ changes past Tick
  panel_told zone_rows zone_rows_then fan_rows fan_rows_then zones_are fans_are zones_then fans_then =
      (λ i. panel_changes (panel_of (zones_are i) (fans_are i)) (rows_then i) (duties_then i))
      ∙ ap₂ (λ (first later : List Change). first ++ later) (modes_told (zones (live_now past)) (zones_there past))
      (duties_told (fans (live_now past)) (fans_there past))
      ∙ sym (ap (λ (live : List Item). flat_map (changes_of_zone past Tick) (zones live) ++ flat_map (changes_of_fan past Tick) (fans live)) same)
      ∙ sym (changes_ticked past)
    where
      same : live_now (Tick ∷ past) ≡ live_now past
      same = live_same Tick past refl

      rows_then : zone_rows_then ≡ map (zone_now (Tick ∷ past)) (zones (live_now past))
      rows_then = zones_then ∙ ap (λ (live : List Item). map (zone_now (Tick ∷ past)) (zones live)) same

      duties_then : fan_rows_then ≡ map (fan_now (Tick ∷ past)) (fans (live_now past))
      duties_then = fans_then ∙ ap (λ (live : List Item). map (fan_now (Tick ∷ past)) (fans live)) same

-- ---- the state

module _ (state : StateView) (past : List Step) (stood : StateStands state past) where
  legal : IsLegal (Tick ∷ past)
  unfolding IsLegal
  legal = (stood.senses.watch.legal, tt)

  counted : raised state.senses.ticks 1 ≡ next_tick past
  counted = ap (λ (count : ℕ). raised count 1) stood.senses.ticks

  zones_stand : ZonesStand (zones_ticked state) state.senses.sensors (Tick ∷ past)
  zones_stand =
      subst (λ (view : ZonesView). ZonesStand view state.senses.sensors (Tick ∷ past))
      (sym (λ i. ticked state.senses.sensors.slots (counted i) (stood.strict i) state.zones))
      (zones_tick past state.senses.sensors state.zones stood.senses.watch.legal stood.senses.sensors stood.zones)

  told : (ticked_state state).senses.watch.changes ≡ changes past Tick
  told = panel_told past state.zones.zone_rows (zones_ticked state).zone_rows state.zones.fan_rows (zones_ticked state).fan_rows stood.zones.zone_rows
      stood.zones.fan_rows zones_stand.zone_rows zones_stand.fan_rows

  pub ticked_stands : StateStands (ticked_state state) (Tick ∷ past) × ((ticked_state state).senses.watch.changes ≡ changes past Tick)
  ticked_stands = (
    record {
      senses = record {
        watch = watch_idle state.senses.watch (ticked_state state).senses.watch past Tick (ticked_state state).senses.watch.changes refl legal
            stood.senses.watch refl;
        sensors = λ name. stood.senses.sensors name ∙ sym (sensors_idle past Tick refl (λ name tick. refl) legal name);
        ticks = counted;
        last = last_told (ticked_state state).senses.watch.changes past Tick told;
      };
      zones = zones_stand;
      strict = stood.strict;
    },
    told,
  )

-- a tick is an act that is always done
pub tick_applies : (state : StateView) → StateApplies state Tick (Ok tt) (ticked_state state)
tick_applies state = record {
  stands = λ past stood. let then = ticked_stands state past stood in (refl, then.0, then.1);
  left = tt;
}

-- and leaves a state
pub state_ticked : (state : StateView) → IsState state → IsState (ticked_state state)
state_ticked state is = record {
  past = Tick ∷ is.past;
  stands = (ticked_stands state is.past is.stands).0;
  enough = bank_kept_by_tick state.senses.sensors.slots (raised state.senses.ticks 1) state.strict state.zones is.enough;
}

-- ---- the tick that is counted, passed on to the zones, and told

pub record Passes (old : StateView) (counted told : SensesView) (zones : ZonesView) (panel : PanelView) (zone_rows : List ZoneRow) (fan_rows : List FanRow)
    : Type 0 where
  pub counts : counted ≡ record old.senses { ticks = raised old.senses.ticks 1 }
  pub ticks : zones ≡ zones_ticked old
  pub before : panel ≡ panel_of old.zones.zone_rows old.zones.fan_rows
  pub tells : told ≡ record counted { watch = record counted.watch { changes = panel_changes panel zone_rows fan_rows } }
  pub zone_rows_are : zone_rows ≡ zones.zone_rows
  pub fan_rows_are : fan_rows ≡ zones.fan_rows

pub is_ticked : (old : StateView) (counted told : SensesView) (zones : ZonesView) (panel : PanelView) (zone_rows : List ZoneRow) (fan_rows : List FanRow)
    → Passes old counted told zones panel zone_rows fan_rows → record { senses = told; zones = zones; strict = old.strict } ≡ ticked_state old
is_ticked old counted told zones panel zone_rows fan_rows passes =
    λ i. record { senses = (passes.tells ∙ senses) i; zones = passes.ticks i; strict = old.strict }
  where
    rows : zone_rows ≡ (zones_ticked old).zone_rows
    rows = passes.zone_rows_are ∙ ap (λ (zones : ZonesView). zones.zone_rows) passes.ticks

    duties : fan_rows ≡ (zones_ticked old).fan_rows
    duties = passes.fan_rows_are ∙ ap (λ (zones : ZonesView). zones.fan_rows) passes.ticks

    senses : record counted { watch = record counted.watch { changes = panel_changes panel zone_rows fan_rows } } ≡ (ticked_state old).senses
    senses = λ i. record (passes.counts i) { watch = record (passes.counts i).watch { changes = panel_changes (passes.before i) (rows i) (duties i) } }
