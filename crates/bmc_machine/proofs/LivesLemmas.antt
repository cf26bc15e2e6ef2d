-- What a step makes of the sensor of a name: one whose item stays live gets what the step is to it, and one whose item becomes live is blank.
use Rattle.std.proofs.Common.{◌≡◌, ℕ, List, [], ◌∷◌, ◌++◌, Bool, true, false, cond, Option, Some, None, refl, sym, ap, ap₂, ◌∙◌, option_map, append-nil}
use Rattle.std.specs.Prelude.{option_and_then}
use Rattle.std.specs.List.{flat_map, enumerate_from}
use Rattle.std.proofs.Math.Bool.{beq}
use Rattle.cfg_json.specs.declared.item.Item.{Item}
use Rattle.inventory.specs.Items.{holder}
use Rattle.inventory.specs.declared.family.Family.TheVariants as families
use Rattle.bmc_report.specs.declared.change.Change.{Change}
use Rattle.sensor_core.specs.Sensors.{Outcome, Sensor, sensor_of, has_failed, has_alarm}
use Rattle.sensor_core.specs.Settings.{limits_of}
use Rattle.sensor_core.specs.declared.limit.Limit.{Limit}
use Rattle.sensor_core.specs.declared.setting.SensorSetting.{SensorSetting}
use Rattle.bmc_machine.specs.Histories.{Step, is_tick, tick_of}
use Rattle.bmc_machine.specs.Indexes.{live_now}
use Rattle.live_sensors.specs.Items.{setting_in, blank_in}
use Rattle.bmc_machine.specs.Lives.{has_id, outcome_of, IsNoOutcome, outcomes, item_sensor, sensor_now}
use Rattle.bmc_machine.specs.Refusals.{IsLegalStep}
use Rattle.bmc_machine.specs.Changes.{inventory, changes_between, alarm_change, sensor_changes, changes_of_sensor, changes_of_item}
use Rattle.bmc_machine.specs.Changes.{changes_of_sensors, changes}
use Rattle.bmc_machine.proofs.HolderLemmas.{holder_was}
use Rattle.bmc_machine.proofs.WaitingLemmas.{no_zone_changes}

-- the sensor of an item after these outcomes
abbrev pub sensor_after : Item → List Outcome → Option Sensor
sensor_after item outcomes = option_map (λ (setting : SensorSetting). sensor_of setting outcomes) (setting_in item.part)

pub outcomes_next : (item : Item) (step : Step) (past : List Step)
    → outcomes item (step ∷ past) ≡ cond (has_id (live_now past) item.id) (outcome_of item.name (tick_of (step ∷ past)) step ++ outcomes item past) []
unfolding outcomes
outcomes_next item step past = refl

-- the sensor of an item after a step, by whether it was live before it
pub sensor_next : (item : Item) (step : Step) (past : List Step) (lived : Bool) → has_id (live_now past) item.id ≡ lived
    → item_sensor (step ∷ past) item ≡ sensor_after item (cond lived (outcome_of item.name (tick_of (step ∷ past)) step ++ outcomes item past) [])
sensor_next item step past lived is =
    ap (sensor_after item) (outcomes_next item step past
    ∙ ap (λ (b : Bool). cond b (outcome_of item.name (tick_of (step ∷ past)) step ++ outcomes item past) []) is)

pub sensor_is : (past : List Step) (name : List ℕ) (held : Option Item) → holder (live_now past) families.Sensor name ≡ held
    → sensor_now past name ≡ option_and_then (item_sensor past) held
unfolding sensor_now
sensor_is past name held is = ap (option_and_then (item_sensor past)) is

-- ---- a sensor that shows what it did

same_bool : (b : Bool) → beq b b ≡ true
same_bool true = refl
same_bool false = refl

-- where an answer is the same nothing is told
nothing_told : (b : Bool) (told : List Change) → cond (beq b b) [] told ≡ []
nothing_told b told = ap (λ (same : Bool). cond same [] told) (same_bool b)

pub no_change : (name : List ℕ) (sensor : Option Sensor) → changes_of_sensor name sensor sensor ≡ []
unfolding sensor_changes
no_change name None = refl
no_change name (Some sensor) =
    ap₂ (λ (first later : List Change). first ++ later) (nothing_told (has_failed sensor) _) (no_alarm (enumerate_from 0 (limits_of sensor.setting)))
  where
    no_alarm : (limits : List (ℕ × Limit)) → flat_map (alarm_change name sensor sensor) limits ≡ []
    no_alarm [] = refl
    no_alarm ((position, limit) ∷ limits) =
        ap₂ (λ (first later : List Change). first ++ later) (nothing_told (has_alarm sensor position) _) (no_alarm limits)

-- where nothing comes of each element nothing comes of all
pub flat_none : {X Y : Type 0} (image : X → List Y) (xs : List X) → ((x : X) → image x ≡ []) → flat_map image xs ≡ []
flat_none image [] none = refl
flat_none {X} {Y} image (first ∷ xs) none = ap₂ (λ (one other : List Y). one ++ other) (none first) (flat_none image xs none)

-- ---- a step that is nothing to any sensor

module _ (past : List Step) (step : Step) (watched : IsNoOutcome step) where
  -- the sensor of an item that was live shows what it did
  sensor_same : (item : Item) → has_id (live_now past) item.id ≡ true → item_sensor (step ∷ past) item ≡ item_sensor past item
  sensor_same item lived =
      sensor_next item step past true lived ∙ ap (λ (new : List Outcome). sensor_after item (new ++ outcomes item past)) (watched item.name _)

  pub no_sensor_changes : changes_of_sensors past step ≡ []
  no_sensor_changes = flat_none (changes_of_item past step) (live_now (step ∷ past)) (λ item. by item (has_id (live_now past) item.id) refl)
    where
      by : (item : Item) (lived : Bool) → has_id (live_now past) item.id ≡ lived
          → cond lived (changes_of_sensor item.name (item_sensor past item) (item_sensor (step ∷ past) item)) [] ≡ []
      by item true lived =
          ap (changes_of_sensor item.name (item_sensor past item)) (sensor_same item lived) ∙ no_change item.name (item_sensor past item)
      by item false absent = refl

  pub changes_watched : is_tick step ≡ false → changes past step ≡ changes_between (inventory past) (inventory (step ∷ past))
  changes_watched still =
      ap₂ (λ (sensors zones : List Change). changes_between (inventory past) (inventory (step ∷ past)) ++ sensors ++ zones) no_sensor_changes
      (no_zone_changes past step still)
      ∙ append-nil _ ∙ append-nil _

  -- an item that stays live keeps its sensor
  pub sensor_stays : (name : List ℕ) (item : Item) → IsLegalStep past step → holder (live_now (step ∷ past)) families.Sensor name ≡ Some item
      → has_id (live_now past) item.id ≡ true → sensor_now (step ∷ past) name ≡ sensor_now past name
  sensor_stays name item legal held lived =
      sensor_is (step ∷ past) name (Some item) held ∙ sensor_same item lived
      ∙ sym (sensor_is past name (Some item) (holder_was past step legal families.Sensor name item held lived))

-- ---- any step

module _ (past : List Step) (step : Step) (name : List ℕ) where
  -- an item that becomes live starts with a blank sensor
  pub sensor_blank : (item : Item) → holder (live_now (step ∷ past)) families.Sensor name ≡ Some item → has_id (live_now past) item.id ≡ false
      → sensor_now (step ∷ past) name ≡ blank_in item.part
  sensor_blank item held absent = sensor_is (step ∷ past) name (Some item) held ∙ sensor_next item step past false absent

-- a name without a holder has no sensor
pub sensor_none : (past : List Step) (name : List ℕ) → holder (live_now past) families.Sensor name ≡ None → sensor_now past name ≡ None
sensor_none past name none = sensor_is past name None none
