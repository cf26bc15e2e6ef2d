-- What each act leaves of what is known of the bus and of the sensors.
use Rattle.std.proofs.Common.{arith, ◌≡◌, ◌∙◌, ℕ, List, [], ◌∷◌, Bool, true, false, ◌&&◌, nat_eq, if◌then◌else◌, Option, Some, None, Ok, Err, map}
use Rattle.std.proofs.Common.{refl, ap, ap₂, sym, subst, option_map}
use Rattle.std.specs.Prelude.{⊤, ℤ, ◌≤◌, nat_lt, unsigned_abs, Result, IfOk, OnErr, IfSome, is_none, bytes_eq, option_and_then, slice_index_or}
use Rattle.std.specs.Map.{lookup}
use Rattle.std.specs.Option.{is_some}
use Rattle.std.specs.Result.{is_err}
use Rattle.std.proofs.lemmas.Bool.Decides.{nat_tests}
use Rattle.bmc_base.specs.Counts.{raised}
use Rattle.bmc_base.specs.Places.{Place}
use Rattle.bmc_base.specs.declared.out_of_memory.OutOfMemory.{OutOfMemory as NoMemory}
use Rattle.cfg_json.specs.declared.item.Item.{Item}
use Rattle.inventory.specs.Boards.{boards_in, board_places}
use Rattle.inventory.specs.Items.{items_less, items, live, holder}
use Rattle.inventory.specs.declared.family.Family.TheVariants as families
use Rattle.inventory.proofs.ListLemmas.{all_any}
use Rattle.sensor_core.specs.Sensors.{Outcome, Good, Sensor, sensor_of, has_failed, all_alarms, ShowSame}
use Rattle.sensor_core.specs.Settings.{most_raw, IsRaw}
use Rattle.sensor_core.specs.Updates.{good_after, lost_after, Takes}
use Rattle.sensor_core.specs.declared.setting.SensorSetting.{SensorSetting}
use Rattle.live_sensors.specs.Items.{setting_in, settled}
use Rattle.live_sensors.specs.Sensors.{LiveSensors, slot_of, sensor_in, AtSlot, Changes}
use Rattle.bmc_report.specs.declared.change.Change.{Change}
use Rattle.bmc_report.specs.declared.refusal.Refusal.{Refusal}
use Rattle.bmc_report.specs.declared.refusal.Refusal.TheVariants.{UnknownSensor, ReadingRange}
use Rattle.bmc_machine.specs.Standings.{Standing}
use Rattle.bmc_machine.specs.Histories.{Step, Start, Configure, Plug, RefusedPlug, Unplug, Read, Lose, Tick, standing, is_idle_step, is_tick, tick_of}
use Rattle.bmc_machine.specs.Boards.{boards, board_keys}
use Rattle.bmc_machine.specs.Indexes.{boards_now, items_now, live_now}
use Rattle.bmc_machine.specs.Lives.{IsNoOutcome, outcomes, sensor_now}
use Rattle.bmc_machine.specs.Names.{is_of}
use Rattle.bmc_machine.specs.Refusals.{is_unknown, refusal_after, IsLegal}
use Rattle.bmc_machine.specs.Changes.{changes, sensor_changes, changes_of_sensor}
use Rattle.bmc_machine.specs.Answers.{past_refused}
use Rattle.bmc_machine.proofs.HolderLemmas.{holder_is}
use Rattle.bmc_machine.proofs.IdleLemmas.{standing_idle, kept_same, live_same, less_self}
use Rattle.bmc_machine.proofs.LivesLemmas.{sensor_is}
use Rattle.bmc_machine.proofs.ReadingLemmas.{sensors_taken, changes_taken, sensors_lost, changes_lost}
use Rattle.bmc_machine.proofs.SettledLemmas.{of_sensors, sensor_settled}
use Rattle.bmc_watch.specs.Watches.{WatchView, no_view, fru_entry, view_items, WatchStands, IsSame}
use Rattle.bmc_watch.specs.Settling.{AreKept, Settles, SettlesUnless}
use Rattle.bmc_watch.specs.Steps.{Tries}
use Rattle.bmc_watch.specs.declared.readings.Glimpse.{Glimpse}
use Rattle.bmc_watch.proofs.ReadingsLemmas.{none_told}
use Rattle.bmc_watch.proofs.StockLemmas.{kept_sensor}
use Rattle.bmc_watch.proofs.WatchesLemmas.{live_is, stands_none}
use Rattle.bmc_core.specs.Senses.{KeepsSlots, SensesView, SensorsStand, AreLast, SensesStand, quiet_senses, AreUnchanged}
use Rattle.bmc_core.specs.Acts.{answer_of, is_short, TakesMemory, Notes}
use Rattle.bmc_core.specs.declared.fault.CoreFault.{CoreFault}
use Rattle.bmc_core.specs.declared.fault.CoreFault.TheVariants.{Refused}

-- the changes of a step are the last ones
pub last_told : (told : List Change) (past : List Step) (step : Step) → told ≡ changes past step → AreLast told (step ∷ past)
last_told [] past step is = tt
last_told (change ∷ more) past step is = is

-- ---- steps of the bus and of the operator

-- the sensors follow the live items
sensors_follow : (old new : SensesView) (past : List Step) (step : Step) → IsNoOutcome step
    → SensesStand old past → WatchStands new.watch (step ∷ past) → Settles old.watch new.watch old.sensors new.sensors → SensorsStand new.sensors (step ∷ past)
sensors_follow old new past step watched stood stands settles name =
    settles.sensors name
    ∙ (λ i. settled (items_less (before i) (after i)) (items_less (after i) (before i)) name (stood.sensors name i))
    ∙ sym (sensor_settled past step stands.legal watched name)
  where
    before : live (view_items old.watch) ≡ live_now past
    before = live_is old.watch past stood.watch

    after : live (view_items new.watch) ≡ live_now (step ∷ past)
    after = live_is new.watch (step ∷ past) stands

-- what is as it was stands as it did
same_stands : (old new : WatchView) (past : List Step) → IsSame old new → WatchStands old past → WatchStands new past
same_stands old new past same stood = record {
  legal = stood.legal;
  configs = same.configs ∙ stood.configs;
  entries = same.entries ∙ stood.entries;
  plugged = same.plugged ∙ stood.plugged;
  kept = λ number. same.kept number ∙ stood.kept number;
}

unchanged_stands : (old new : SensesView) (past : List Step) → AreUnchanged old new → SensesStand old past → SensesStand new past
unchanged_stands old new past same stood = record {
  watch = same_stands old.watch new.watch past same.watch stood.watch;
  sensors = λ name. kept_sensor old.sensors new.sensors same.sensors name ∙ stood.sensors name;
  ticks = same.ticks ∙ stood.ticks;
  last = subst (λ (told : List Change). AreLast told past) (sym same.watch.changes) stood.last;
}

-- a step that is idle and nothing to any sensor leaves the sensors
pub sensors_idle : (past : List Step) (step : Step) → is_idle_step step ≡ true → IsNoOutcome step → IsLegal (step ∷ past) → (name : List ℕ)
    → sensor_now (step ∷ past) name ≡ sensor_now past name
sensors_idle past step idle watched legal name =
    sensor_settled past step legal watched name ∙ (λ i. settled (none_gone i) (none_new i) name (sensor_now past name))
  where
    same : live_now (step ∷ past) ≡ live_now past
    same = live_same step past idle

    none_gone : items_less (live_now past) (live_now (step ∷ past)) ≡ []
    none_gone = ap (items_less (live_now past)) same ∙ less_self (live_now past)

    none_new : items_less (live_now (step ∷ past)) (live_now past) ≡ []
    none_new = ap (λ (now : List Item). items_less now (live_now past)) same ∙ less_self (live_now past)

-- a step that is refused leaves the sensors, also where it joins the history
sensors_refused : (sensors : LiveSensors) (past : List Step) (step : Step) (refusal : Refusal) → IsLegal (past_refused past step refusal)
    → SensorsStand sensors past → SensorsStand sensors (past_refused past step refusal)
sensors_refused sensors past (Plug place bytes) refusal legal stood = λ name. stood name
    ∙ sym (sensors_idle past (RefusedPlug place bytes refusal) refl (λ name tick. refl) legal name)
sensors_refused sensors past (Start options) refusal legal stood = stood
sensors_refused sensors past (Configure config) refusal legal stood = stood
sensors_refused sensors past (RefusedPlug place bytes reason) refusal legal stood = stood
sensors_refused sensors past (Unplug place) refusal legal stood = stood
sensors_refused sensors past (Read name raw) refusal legal stood = stood
sensors_refused sensors past (Lose name) refusal legal stood = stood
sensors_refused sensors past Tick refusal legal stood = stood

-- only a tick is counted
ticks_wait : (past : List Step) (step : Step) → is_tick step ≡ false → tick_of (step ∷ past) ≡ tick_of past
ticks_wait past step still = ap (λ (tick : Bool). if tick then raised (tick_of past) 1 else tick_of past) still

ticks_refused : (past : List Step) (step : Step) (refusal : Refusal) → tick_of (past_refused past step refusal) ≡ tick_of past
ticks_refused past (Start options) refusal = refl
ticks_refused past (Configure config) refusal = refl
ticks_refused past (Plug place bytes) refusal = refl
ticks_refused past (RefusedPlug place bytes reason) refusal = refl
ticks_refused past (Unplug place) refusal = refl
ticks_refused past (Read name raw) refusal = refl
ticks_refused past (Lose name) refusal = refl
ticks_refused past Tick refusal = refl

-- a step of the bus or of the operator is an act
pub answered : (old new : SensesView) (step : Step) (tried : Result (Option Refusal) NoMemory)
    → IsNoOutcome step → is_tick step ≡ false → TakesMemory step → new.ticks ≡ old.ticks
    → IfOk tried (λ refusal. Tries old.watch step refusal new.watch × SettlesUnless refusal old.watch new.watch old.sensors new.sensors)
    → OnErr tried (IsSame old.watch new.watch × AreKept old.sensors new.sensors)
    → Notes old step (answer_of tried) new
answered old new step (Ok None) watched still takes same tries kept = record {
  stand = λ past stood.
      let accepts = tries.0.tried past stood.watch in (
        accepts.reason,
        record {
          watch = accepts.stands;
          sensors = sensors_follow old new past step watched stood accepts.stands tries.1;
          ticks = same ∙ stood.ticks ∙ sym (ticks_wait past step still);
          last = last_told new.watch.changes past step accepts.told;
        },
        accepts.told,
      );
  left = tt;
}
answered old new step (Ok (Some refusal)) watched still takes same tries kept = record {
  stand = λ past stood.
      let refuses = tries.0.tried past stood.watch in (
        refuses.reason,
        record {
          watch = refuses.stands;
          sensors = subst (λ (sensors : LiveSensors). SensorsStand sensors (past_refused past step refusal)) (sym tries.1)
              (sensors_refused old.sensors past step refusal refuses.stands.legal stood.sensors);
          ticks = same ∙ stood.ticks ∙ sym (ticks_refused past step refusal);
          last = subst (λ (told : List Change). AreLast told (past_refused past step refusal))
              (sym (ap (λ (watch : WatchView). watch.changes) tries.0.left)) tt;
        },
      );
  left = λ i. record { watch = tries.0.left i; sensors = tries.1 i; ticks = same i };
}
answered old new step (Err fault) watched still takes same tries kept = record {
  stand = λ past stood. unchanged_stands old new past (record { watch = kept.0; sensors = kept.1; ticks = same }) stood;
  left = (takes, record { watch = kept.0; sensors = kept.1; ticks = same });
}

-- a name keeps its slot that is the name of no sensor that is gone, and of none that is new
pub slots_answered : (old new : SensesView) (step : Step) (tried : Result (Option Refusal) NoMemory)
    → IfOk tried (λ refusal. Tries old.watch step refusal new.watch × SettlesUnless refusal old.watch new.watch old.sensors new.sensors)
    → KeepsSlots (answer_of tried) old new
slots_answered old new step (Ok None) tries = tries.1.slots
slots_answered old new step (Ok (Some refusal)) tries = tt
slots_answered old new step (Err fault) tries = tt

-- ---- readings and losses

-- an act that is refused leaves all but the last changes
pub refused : (old new : SensesView) (step : Step) (refusal : Refusal) (result : Result ⊤ CoreFault)
    → ((past : List Step) → past_refused past step refusal ≡ past)
    → ((past : List Step) → SensesStand old past → refusal_after past step ≡ Some refusal) → result ≡ Err (Refused refusal) → new ≡ quiet_senses old
    → Notes old step result new
refused old new step refusal result leaves reason is left =
    subst (λ (result : Result ⊤ CoreFault). Notes old step result new) (sym is) (record {
      stand = λ past stood. (
        reason past stood,
        subst (λ (history : List Step). SensesStand new history) (sym (leaves past))
            (subst (λ (senses : SensesView). SensesStand senses past) (sym left) (quiet_stands old past stood)),
      );
      left = left;
    })
  where
    quiet_watch : (watch : WatchView) (past : List Step) → WatchStands watch past → WatchStands (record watch { changes = [] }) past
    quiet_watch watch past stood =
        record { legal = stood.legal; configs = stood.configs; entries = stood.entries; plugged = stood.plugged; kept = stood.kept }

    quiet_stands : (senses : SensesView) (past : List Step) → SensesStand senses past → SensesStand (quiet_senses senses) past
    quiet_stands senses past stood = record { watch = quiet_watch senses.watch past stood.watch; sensors = stood.sensors; ticks = stood.ticks; last = tt }

-- whether a name is unknown, by whether it has a sensor
pub unknown_is : (past : List Step) (name : List ℕ) → is_unknown (live_now past) name ≡ is_none (sensor_now past name)
unknown_is past name = by (holder (live_now past) families.Sensor name) refl
  where
    none_of : (setting : Option SensorSetting) (outcomes : List Outcome) → is_some setting ≡ true
        → is_none (option_map (λ (setting : SensorSetting). sensor_of setting outcomes) setting) ≡ false
    none_of None outcomes is = absurd (cc)
    none_of (Some setting) outcomes is = refl

    by : (held : Option Item) → holder (live_now past) families.Sensor name ≡ held → is_none held ≡ is_none (sensor_now past name)
    by None is = sym (ap is_none (sensor_is past name None is))
    by (Some item) is =
        let of_family : is_of families.Sensor item ≡ true =
        (holder_is families.Sensor name (λ item. ⊤) (live_now past) item (all_any _ (λ item. tt) (live_now past)) is).1 in
        sym (ap is_none (sensor_is past name (Some item) is) ∙ none_of (setting_in item.part) (outcomes item past) (sym (of_sensors item.part) ∙ of_family))

-- the sensor of a name takes an outcome, and the changes are told
pub record IsTold (old : SensesView) (name : List ℕ) (change : Sensor → Sensor) (new : SensesView) : Type 0 where
  pub sensors : (other : List ℕ)
      → sensor_in new.sensors other ≡ (if bytes_eq name other then option_map change (sensor_in old.sensors other) else sensor_in old.sensors other)
  pub watch : new.watch ≡ record old.watch { changes = changes_of_sensor name (sensor_in old.sensors name) (sensor_in new.sensors name) }
  pub ticks : new.ticks ≡ old.ticks

-- names are one whichever comes first
names_turned : (name other : List ℕ) → bytes_eq name other ≡ bytes_eq other name
names_turned [] [] = refl
names_turned [] (y ∷ ys) = refl
names_turned (x ∷ xs) [] = refl
names_turned (x ∷ xs) (y ∷ ys) = ap₂ (λ (first later : Bool). first && later) (nat_turned x y) (names_turned xs ys)
  where
    nat_turned : (x y : ℕ) → nat_eq x y ≡ nat_eq y x
    nat_turned x y = grind (arith, nat_tests)

-- what is known of the bus stands also with other changes, after a step that is none of its events
pub watch_idle : (old new : WatchView) (past : List Step) (step : Step) (told : List Change) → is_idle_step step ≡ true → IsLegal (step ∷ past)
    → WatchStands old past → new ≡ record old { changes = told } → WatchStands new (step ∷ past)
watch_idle old new past step told idle legal stood is = subst (λ (watch : WatchView). WatchStands watch (step ∷ past)) (sym is) (record {
  legal = legal;
  configs = stood.configs ∙ sym (ap (λ (now : Standing). now.configs) same);
  entries = stood.entries ∙ sym (ap (λ (now : Standing). map (fru_entry now.configs) now.frus) same);
  plugged = stood.plugged ∙ sym (ap (λ (now : Standing). now.plugged) same);
  kept = λ number. stood.kept number ∙ sym (ap (λ (kept : ℕ → List (Option Place)). kept number) (kept_same step past idle));
})
  where
    same : standing (step ∷ past) ≡ standing past
    same = standing_idle step past idle

-- a step that a sensor takes is an act
pub told : (old new : SensesView) (step : Step) (name : List ℕ) (change : Sensor → Sensor) (result : Result ⊤ CoreFault) → result ≡ Ok tt
    → is_idle_step step ≡ true → is_tick step ≡ false → ((past : List Step) → SensesStand old past → refusal_after past step ≡ None)
    → ((past : List Step) → SensesStand old past → IsLegal (step ∷ past))
    → ((past : List Step) → SensesStand old past → (other : List ℕ)
    → sensor_now (step ∷ past) other ≡ (if bytes_eq other name then option_map change (sensor_now past other) else sensor_now past other))
    → ((past : List Step) → SensesStand old past → changes past step ≡ changes_of_sensor name (sensor_now past name) (sensor_now (step ∷ past) name))
    → IsTold old name change new → Notes old step result new
told old new step name change result is idle still accepted legal sensors tells has =
    subst (λ (result : Result ⊤ CoreFault). Notes old step result new) (sym is) (record {
      stand = λ past stood. (accepted past stood, stands past stood, changes_are past stood);
      left = tt;
    })
  where
    sensors_stand : (past : List Step) → SensesStand old past → SensorsStand new.sensors (step ∷ past)
    sensors_stand past stood other =
        has.sensors other
        ∙ (λ i. if names_turned name other i then option_map change (stood.sensors other i) else stood.sensors other i)
        ∙ sym (sensors past stood other)

    changes_are : (past : List Step) → SensesStand old past → new.watch.changes ≡ changes past step
    changes_are past stood =
        ap (λ (watch : WatchView). watch.changes) has.watch
        ∙ ap₂ (changes_of_sensor name) (stood.sensors name) (sensors_stand past stood name)
        ∙ sym (tells past stood)

    stands : (past : List Step) → SensesStand old past → SensesStand new (step ∷ past)
    stands past stood = record {
      watch = watch_idle old.watch new.watch past step _ idle (legal past stood) stood.watch has.watch;
      sensors = sensors_stand past stood;
      ticks = has.ticks ∙ stood.ticks ∙ sym (ticks_wait past step still);
      last = last_told new.watch.changes past step (changes_are past stood);
    }

-- ---- the answers to readings and losses

-- a name without a slot is unknown, and one with a slot is known
slot_unknown : (senses : SensesView) (past : List Step) (name : List ℕ) (slot : Option ℕ) → is_none slot ≡ is_none (sensor_in senses.sensors name)
    → SensesStand senses past
    → is_unknown (live_now past) name ≡ is_none slot
slot_unknown senses past name slot same stood = unknown_is past name ∙ ap is_none (sym (stood.sensors name)) ∙ sym same

pub read_unknown : (old new : SensesView) (name : List ℕ) (raw : ℤ) (slot : Option ℕ) (result : Result ⊤ CoreFault)
    → is_none slot ≡ is_none (sensor_in old.sensors name) → slot ≡ None → result ≡ Err (Refused UnknownSensor) → new ≡ quiet_senses old
    → Notes old (Read name raw) result new
read_unknown old new name raw slot result same none is left =
    refused old new (Read name raw) UnknownSensor result (λ past. refl)
    (λ past stood. ap (λ (unknown : Bool). if unknown then Some UnknownSensor
    else (if nat_lt most_raw (unsigned_abs raw) then Some ReadingRange else None)) (slot_unknown old past name slot same stood ∙ ap is_none none)) is left

pub lose_unknown : (old new : SensesView) (name : List ℕ) (slot : Option ℕ) (result : Result ⊤ CoreFault)
    → is_none slot ≡ is_none (sensor_in old.sensors name) → slot ≡ None → result ≡ Err (Refused UnknownSensor) → new ≡ quiet_senses old
    → Notes old (Lose name) result new
lose_unknown old new name slot result same none is left =
    refused old new (Lose name) UnknownSensor result (λ past. refl)
    (λ past stood. ap (λ (unknown : Bool). if unknown then Some UnknownSensor else None) (slot_unknown old past name slot same stood ∙ ap is_none none)) is left

-- a raw number out of its range is refused
read_refusal : (past : List Step) (name : List ℕ) (raw : ℤ) (outside : Bool) → is_unknown (live_now past) name ≡ false
    → nat_lt most_raw (unsigned_abs raw) ≡ outside → refusal_after past (Read name raw) ≡ (if outside then Some ReadingRange else None)
read_refusal past name raw outside known is =
    ap₂ (λ (unknown outside : Bool). if unknown then Some UnknownSensor else (if outside then Some ReadingRange else None)) known is

pub read_outside : (old new : SensesView) (name : List ℕ) (raw : ℤ) (slot : ℕ) (found : Option ℕ) (result : Result ⊤ CoreFault)
    → is_none found ≡ is_none (sensor_in old.sensors name) → found ≡ Some slot → (IsRaw raw → ⊥) → result ≡ Err (Refused ReadingRange) → new ≡ quiet_senses old
    → Notes old (Read name raw) result new
read_outside old new name raw slot found result same some outside is left =
    refused old new (Read name raw) ReadingRange result (λ past. refl)
    (λ past stood. read_refusal past name raw true (slot_unknown old past name found same stood ∙ ap is_none some) (beyond (unsigned_abs raw) outside)) is left
  where
    beyond : (size : ℕ) → (size ≤ most_raw → ⊥) → nat_lt most_raw size ≡ true
    beyond size outside = by (nat_lt most_raw size) refl
      where
        by : (more : Bool) → nat_lt most_raw size ≡ more → more ≡ true
        by true is = refl
        by false is = absurd (outside (grind (arith, nat_tests, is)))

-- what is known, part by part
abbrev senses_of : WatchView → LiveSensors → ℕ → SensesView
senses_of watch sensors ticks = record { watch = watch; sensors = sensors; ticks = ticks }

-- where the sensors are the same as before they were asked for a name, so is what is known
pub asked : {watch : WatchView} {now sensors : LiveSensors} {ticks : ℕ} {view : SensesView} → now ≡ sensors
    → senses_of watch sensors ticks ≡ view → senses_of watch now ticks ≡ view
asked {watch} {now} {sensors} {ticks} {view} same is = ap (λ (each : LiveSensors). senses_of watch each ticks) same ∙ is

-- a name has its slot as long as the slots of the names stay
pub slot_stays : (old new : LiveSensors) (name : List ℕ) (slot : ℕ) → new.names ≡ old.names → slot_of old name ≡ Some slot → slot_of new name ≡ Some slot
slot_stays old new name slot same has = ap (lookup (bytes_eq name)) same ∙ has

-- what a sensor showed and shows is told
told_between : (name : List ℕ) (old new : Option Sensor) (before after : Sensor) → old ≡ Some before → new ≡ Some after
    → sensor_changes name before after ≡ changes_of_sensor name old new
told_between name old new before after was is = sym (ap₂ (changes_of_sensor name) was is)

-- a sensor that shows the same is told of with nothing
pub nothing_told : (watch : WatchView) (name : List ℕ) (before after : Sensor) → ShowSame before after
    → record watch { changes = [] } ≡ record watch { changes = sensor_changes name before after }
nothing_told watch name before after same =
    let glimpse : Glimpse = record { failed = has_failed before; alarms = all_alarms before } in
    ap (λ (told : List Change). record watch { changes = told })
    (sym (none_told name glimpse before after (record { failed = refl; alarms = refl }) (record { failed = same.failed; alarms = same.alarms })))

-- the sensor of a name is what a step makes of it
pub sensor_made : (old new : LiveSensors) (name : List ℕ) (slot : ℕ) (change : Sensor → Sensor) (before : Sensor) → Changes old new slot change
    → slot_of old name ≡ Some slot → sensor_in old name ≡ Some before → sensor_in new name ≡ Some (change before)
sensor_made old new name slot change before changed has was =
    ap (option_and_then (λ (its : ℕ). slice_index_or new.slots its None)) (slot_stays old new name slot changed.names has)
    ∙ changed.slots.changed
    ∙ ap (option_map change) (sym (ap (option_and_then (λ (its : ℕ). slice_index_or old.slots its None)) has) ∙ was)

module _ (old new : SensesView) (name : List ℕ) (slot : ℕ) (found : Option ℕ) (before after : Sensor) (now : LiveSensors)
    (same : is_none found ≡ is_none (sensor_in old.sensors name)) (some : found ≡ Some slot) (has : found ≡ slot_of old.sensors name)
    (was : sensor_in old.sensors name ≡ Some before) (is : sensor_in now name ≡ Some after)
    (watch : new.watch ≡ record old.watch { changes = sensor_changes name before after }) (sensors : new.sensors ≡ now) (ticks : new.ticks ≡ old.ticks) where
  is_told : (change : Sensor → Sensor) → Changes old.sensors now slot change → IsTold old name change new
  is_told change changed = record {
    sensors = λ other. ap (λ (sensors : LiveSensors). sensor_in sensors other) sensors ∙ changed.sensors name (sym has ∙ some) other;
    watch = watch ∙ ap (λ (told : List Change). record old.watch { changes = told })
        (told_between name (sensor_in old.sensors name) (sensor_in new.sensors name) before after was
        (ap (λ (sensors : LiveSensors). sensor_in sensors name) sensors ∙ is));
    ticks = ticks;
  }

  known : (past : List Step) → SensesStand old past → is_unknown (live_now past) name ≡ false
  known past stood = slot_unknown old past name found same stood ∙ ap is_none some

  pub lose_told : Changes old.sensors now slot lost_after → (result : Result ⊤ CoreFault) → result ≡ Ok tt → Notes old (Lose name) result new
  unfolding IsLegal
  lose_told changed result done =
      told old new (Lose name) name lost_after result done refl refl accepted (λ past stood. legal past stood) (λ past stood. sensors_lost past name)
      (λ past stood. changes_lost past name stood.watch.legal) (is_told lost_after changed)
    where
      accepted : (past : List Step) → SensesStand old past → refusal_after past (Lose name) ≡ None
      accepted past stood = ap (λ (unknown : Bool). if unknown then Some UnknownSensor else None) (known past stood)

      legal : (past : List Step) → SensesStand old past → IsLegal (Lose name ∷ past)
      legal past stood = (stood.watch.legal, accepted past stood)

  pub read_told : (raw : ℤ) (tick : ℕ) → IsRaw raw → tick ≡ old.ticks → Changes old.sensors now slot (λ sensor. good_after sensor raw tick)
      → AtSlot old.sensors slot (λ sensor. Takes sensor (good_after sensor raw tick) (Good raw tick)) → (result : Result ⊤ CoreFault) → result ≡ Ok tt
      → Notes old (Read name raw) result new
  unfolding IsLegal
  read_told raw tick within now changed takes result done =
      told old new (Read name raw) name (λ sensor. good_after sensor raw tick) result done refl refl accepted (λ past stood. legal past stood)
      (λ past stood other. sensors_taken past name raw (taken past stood) other
      ∙ ap (λ (at : ℕ). if bytes_eq other name then option_map (λ sensor. good_after sensor raw at) (sensor_now past other) else sensor_now past other)
      (sym (clock past stood)))
      (λ past stood. changes_taken past name raw (taken past stood) stood.watch.legal) (is_told (λ sensor. good_after sensor raw tick) changed)
    where
      clock : (past : List Step) → SensesStand old past → tick ≡ tick_of past
      clock past stood = now ∙ stood.ticks

      inside : (size : ℕ) → size ≤ most_raw → nat_lt most_raw size ≡ false
      inside size within = grind (arith, nat_tests, within)

      accepted : (past : List Step) → SensesStand old past → refusal_after past (Read name raw) ≡ None
      accepted past stood = read_refusal past name raw false (known past stood) (inside (unsigned_abs raw) within)

      legal : (past : List Step) → SensesStand old past → IsLegal (Read name raw ∷ past)
      legal past stood = (stood.watch.legal, accepted past stood)

      taken : (past : List Step) → SensesStand old past
          → IfSome (sensor_now past name) (λ sensor. Takes sensor (good_after sensor raw (tick_of past)) (Good raw (tick_of past)))
      taken past stood =
          subst (λ (at : ℕ). IfSome (sensor_now past name) (λ sensor. Takes sensor (good_after sensor raw at) (Good raw at))) (clock past stood)
          (subst (λ (sensor : Option Sensor). IfSome sensor (λ sensor. Takes sensor (good_after sensor raw tick) (Good raw tick))) (stood.sensors name)
          (takes name (sym has ∙ some)))

-- ---- a new core

-- where nothing has happened no name has a sensor
none_now : (name : List ℕ) → sensor_now [] name ≡ None
unfolding sensor_now live_now items_now boards_now board_keys standing live items boards boards_in board_places
none_now name = refl

pub stands_new : (senses : SensesView) → senses.watch ≡ no_view → ((name : List ℕ) → sensor_in senses.sensors name ≡ None) → senses.ticks ≡ 0
    → SensesStand senses []
stands_new senses nothing none zero = record {
  watch = subst (λ (watch : WatchView). WatchStands watch []) (sym nothing) stands_none;
  sensors = λ name. none name ∙ sym (none_now name);
  ticks = zero;
  last = subst (λ (watch : WatchView). AreLast watch.changes []) (sym nothing) tt;
}

-- memory was wanting where the step that was tried failed
pub short_is : (tried : Result (Option Refusal) NoMemory) (result : Result ⊤ CoreFault) → result ≡ answer_of tried → is_err tried ≡ is_short result
short_is tried result is = by tried ∙ sym (ap is_short is)
  where
    by : (tried : Result (Option Refusal) NoMemory) → is_err tried ≡ is_short (answer_of tried)
    by (Ok None) = refl
    by (Ok (Some refusal)) = refl
    by (Err fault) = refl
