-- A reading and a loss of the sensor of a name: what they make of it, and what they change.
use Rattle.std.proofs.Common.{◌≡◌, ℕ, ◌+◌, ℤ, List, [], ◌∷◌, ◌++◌, Bool, true, false, cond, ◌&&◌, Option, Some, None, refl, sym, ap, ap₂, ◌∙◌, option_map}
use Rattle.std.proofs.Common.{append-nil, is_some, arith, subst}
use Rattle.std.specs.Prelude.{bytes_eq, min, option_and_then, IfSome}
use Rattle.std.specs.List.{flat_map, prefix_len}
use Rattle.std.specs.Cmp.Lexicographic.{bytes_decides}
use Rattle.std.proofs.lemmas.Option.{IfSome_then}
use Rattle.cfg_json.specs.declared.item.Item.{Item}
use Rattle.inventory.specs.Items.{has_name, holder}
use Rattle.inventory.specs.declared.family.Family.TheVariants as families
use Rattle.bmc_report.specs.declared.change.Change.{Change}
use Rattle.sensor_core.specs.Sensors.{Outcome, Good, Lost, Sensor, sensor_of, is_lost}
use Rattle.sensor_core.specs.Settings.{IsValidSetting}
use Rattle.sensor_core.specs.Updates.{good_after, lost_after, Takes}
use Rattle.sensor_core.specs.declared.setting.SensorSetting.{SensorSetting}
use Rattle.sensor_core.proofs.SensorsLemmas.{good_takes}
use Rattle.bmc_machine.specs.Histories.{Step, Read, Lose, tick_of, is_idle_step, is_tick}
use Rattle.bmc_machine.specs.Indexes.{live_now}
use Rattle.live_sensors.specs.Items.{setting_in}
use Rattle.bmc_machine.specs.Lives.{has_id, outcome_of, outcomes, item_sensor, sensor_now}
use Rattle.bmc_machine.specs.Refusals.{IsLegal}
use Rattle.bmc_machine.specs.Changes.{inventory, changes_between, changes_of_sensor, changes_of_item, changes}
use Rattle.bmc_machine.proofs.IdleLemmas.{live_same, inventory_same, nothing_between}
use Rattle.bmc_machine.proofs.HolderLemmas.{holder_name, holder_has_id}
use Rattle.bmc_machine.proofs.WaitingLemmas.{no_zone_changes}
use Rattle.bmc_machine.proofs.LivesLemmas.{sensor_after, sensor_next, sensor_is, no_change}
use Rattle.bmc_machine.proofs.SettledLemmas.{AreNamedOnce, none_behind, of_sensors, live_once}

-- ---- one of a list

-- what comes of an item, if there is one
abbrev pub of_held : {X : Type 0} → (Item → List X) → Option Item → List X
of_held image None = []
of_held image (Some item) = image item

-- where nothing comes of any but the holder of a name
flat_one : {X : Type 0} (image : Item → List X) (name : List ℕ) (items : List Item) → AreNamedOnce families.Sensor items
    → ((item : Item) → has_name families.Sensor name item ≡ false → image item ≡ []) → flat_map image items ≡ of_held image (holder items families.Sensor name)
flat_one image name [] once none = refl
flat_one {X} image name (first ∷ items) once none = by (has_name families.Sensor name first) refl (flat_one image name items once.1 none)
  where
    by : (named : Bool) → has_name families.Sensor name first ≡ named → flat_map image items ≡ of_held image (holder items families.Sensor name)
        → image first ++ flat_map image items ≡ of_held image (cond named (Some first) (holder items families.Sensor name))
    by true is rest =
        ap (λ (later : List X). image first ++ later) (rest ∙ ap (of_held image) (none_behind families.Sensor name first items once is))
        ∙ append-nil (image first)
    by false is rest = ap (λ (front : List X). front ++ flat_map image items) (none first is) ∙ rest

-- an item without a setting has no sensor
no_sensor : (item : Item) (some other : List Outcome) → is_some (setting_in item.part) ≡ false → sensor_after item some ≡ sensor_after item other
no_sensor item some other = by (setting_in item.part)
  where
    by : (setting : Option SensorSetting) → is_some setting ≡ false
        → option_map (λ (setting : SensorSetting). sensor_of setting some) setting ≡ option_map (λ (setting : SensorSetting). sensor_of setting other) setting
    by None is = refl
    by (Some setting) is = absurd (cc)

-- ---- a step that tells the sensor of a name an outcome

module _ (past : List Step) (step : Step) (name : List ℕ) (outcome : Outcome) (after : Sensor → Sensor) (idle : is_idle_step step ≡ true)
    (still : is_tick step ≡ false)
    (tells : (other : List ℕ) → outcome_of other (tick_of (step ∷ past)) step ≡ cond (bytes_eq other name) (outcome ∷ []) [])
    (takes : IfSome (sensor_now past name) (λ (sensor : Sensor). Takes sensor (after sensor) outcome)) where
  -- an item that is live, and the name of which is that one or not
  told_or_not : (item : Item) (told : Bool) → bytes_eq item.name name ≡ told → has_id (live_now past) item.id ≡ true
      → item_sensor (step ∷ past) item ≡ sensor_after item (cond told (outcome ∷ outcomes item past) (outcomes item past))
  told_or_not item told is lived =
      sensor_next item step past true lived
      ∙ ap (λ (new : List Outcome). sensor_after item (new ++ outcomes item past)) (tells item.name ∙ ap (λ (b : Bool). cond b (outcome ∷ []) []) is)
      ∙ ap (sensor_after item) (by told)
    where
      by : (told : Bool) → cond told (outcome ∷ []) [] ++ outcomes item past ≡ cond told (outcome ∷ outcomes item past) (outcomes item past)
      by true = refl
      by false = refl

  -- the holder of the name takes the outcome
  told_item : (item : Item) → holder (live_now past) families.Sensor name ≡ Some item
      → sensor_after item (outcome ∷ outcomes item past) ≡ option_map after (item_sensor past item)
  told_item item held = by (setting_in item.part) (subst (λ (shown : Option Sensor). IfSome shown (λ (sensor : Sensor). Takes sensor (after sensor) outcome))
      (sensor_is past name (Some item) held) takes)
    where
      by : (setting : Option SensorSetting)
          → IfSome (option_map (λ (setting : SensorSetting). sensor_of setting (outcomes item past)) setting)
          (λ (sensor : Sensor). Takes sensor (after sensor) outcome)
          → option_map (λ (setting : SensorSetting). sensor_of setting (outcome ∷ outcomes item past)) setting
          ≡ option_map after (option_map (λ (setting : SensorSetting). sensor_of setting (outcomes item past)) setting)
      by None takes = refl
      by (Some setting) takes = ap Some (sym (takes setting (outcomes item past) refl))

  told_held : (other : List ℕ) (told : Bool) (held : Option Item) → bytes_eq other name ≡ told → holder (live_now past) families.Sensor other ≡ held
      → option_and_then (item_sensor (step ∷ past)) held
      ≡ cond told (option_map after (option_and_then (item_sensor past) held)) (option_and_then (item_sensor past) held)
  told_held other true None is was = refl
  told_held other false None is was = refl
  told_held other told (Some item) is was =
      told_or_not item told (ap (λ (own : List ℕ). bytes_eq own name) (holder_name families.Sensor other (live_now past) item was) ∙ is)
      (holder_has_id families.Sensor other (live_now past) item was)
      ∙ by told is
    where
      by : (told : Bool) → bytes_eq other name ≡ told → sensor_after item (cond told (outcome ∷ outcomes item past) (outcomes item past))
          ≡ cond told (option_map after (item_sensor past item)) (item_sensor past item)
      by true is = told_item item (ap (holder (live_now past) families.Sensor) (sym ((bytes_decides other name).0 is)) ∙ was)
      by false is = refl

  pub sensors_told : (other : List ℕ)
      → sensor_now (step ∷ past) other ≡ cond (bytes_eq other name) (option_map after (sensor_now past other)) (sensor_now past other)
  sensors_told other =
      sensor_is (step ∷ past) other (holder (live_now past) families.Sensor other)
      (ap (λ (live : List Item). holder live families.Sensor other) (live_same step past idle))
      ∙ told_held other (bytes_eq other name) (holder (live_now past) families.Sensor other) refl refl
      ∙ ap (λ (shown : Option Sensor). cond (bytes_eq other name) (option_map after shown) shown) (sym (sensor_is past other _ refl))

  -- an item that has not the name shows what it did
  quiet : (item : Item) → has_name families.Sensor name item ≡ false → changes_of_item past step item ≡ []
  quiet item unnamed = by (has_id (live_now past) item.id) refl
    where
      same_sensor : (is : Bool) → is_some (setting_in item.part) ≡ is → (named : Bool) → bytes_eq item.name name ≡ named → (is && named) ≡ false
          → has_id (live_now past) item.id ≡ true → item_sensor (step ∷ past) item ≡ item_sensor past item
      same_sensor true is true named neither lived = absurd (cc)
      same_sensor is_sensor is false named neither lived = told_or_not item false named lived
      same_sensor false is true named neither lived = no_sensor item (outcomes item (step ∷ past)) (outcomes item past) is

      by : (lived : Bool) → has_id (live_now past) item.id ≡ lived
          → cond lived (changes_of_sensor item.name (item_sensor past item) (item_sensor (step ∷ past) item)) [] ≡ []
      by true lived =
          ap (changes_of_sensor item.name (item_sensor past item))
          (same_sensor (is_some (setting_in item.part)) refl (bytes_eq item.name name) refl
          (sym (ap (λ (is : Bool). is && bytes_eq item.name name) (of_sensors item.part)) ∙ unnamed) lived)
          ∙ no_change item.name (item_sensor past item)
      by false absent = refl

  -- the holder of the name shows what the sensor of the name does
  one_change : (held : Option Item) → holder (live_now past) families.Sensor name ≡ held
      → of_held (changes_of_item past step) held ≡ changes_of_sensor name (sensor_now past name) (sensor_now (step ∷ past) name)
  one_change None is = sym (ap (λ (was : Option Sensor). changes_of_sensor name was (sensor_now (step ∷ past) name)) (sensor_is past name None is))
  one_change (Some item) is =
      ap (λ (lived : Bool). cond lived (changes_of_sensor item.name (item_sensor past item) (item_sensor (step ∷ past) item)) [])
      (holder_has_id families.Sensor name (live_now past) item is)
      ∙ λ i. changes_of_sensor (holder_name families.Sensor name (live_now past) item is i) (was i) (shows i)
    where
      was : item_sensor past item ≡ sensor_now past name
      was = sym (sensor_is past name (Some item) is)

      shows : item_sensor (step ∷ past) item ≡ sensor_now (step ∷ past) name
      shows =
          sym (sensor_is (step ∷ past) name (Some item) (ap (λ (live : List Item). holder live families.Sensor name) (live_same step past idle) ∙ is))

  pub changes_told : IsLegal past → changes past step ≡ changes_of_sensor name (sensor_now past name) (sensor_now (step ∷ past) name)
  changes_told legal =
      ap₂ (λ (front zones : List Change). front ++ zones)
      (ap₂ (λ (first later : List Change). first ++ later)
      (ap (changes_between (inventory past)) (inventory_same step past idle) ∙ nothing_between (inventory past))
      (ap (flat_map (changes_of_item past step)) (live_same step past idle)
      ∙ flat_one (changes_of_item past step) name (live_now past) (live_once past legal) quiet
      ∙ one_change (holder (live_now past) families.Sensor name) refl))
      (no_zone_changes past step still)
      ∙ append-nil _

-- ---- readings and losses

more_losses : (n : ℕ) → min 5 (1 + n) ≡ min 5 (min 5 n + 1)
more_losses n = omega arith

-- what a loss makes of the sensor that had some outcomes
pub lost_takes : (old : Sensor) → Takes old (lost_after old) Lost
lost_takes old setting outcomes is =
    ap lost_after is
    ∙ ap (λ (lost : ℕ). record (sensor_of setting (Lost ∷ outcomes)) { lost = lost }) (sym (more_losses (prefix_len is_lost outcomes)))

module _ (past : List Step) (name : List ℕ) (raw : ℤ) where
  -- the sensor of the name, if there is one, takes the reading
  abbrev pub TakesReading : Type 0
  TakesReading = IfSome (sensor_now past name) (λ sensor. Takes sensor (good_after sensor raw (tick_of past)) (Good raw (tick_of past)))

  -- it does if its setting is valid
  takes_reading : IfSome (sensor_now past name) (λ sensor. IsValidSetting sensor.setting) → TakesReading
  takes_reading valid = IfSome_then (sensor_now past name) valid (λ sensor valid. good_takes sensor raw (tick_of past) valid)

  pub sensors_taken : TakesReading → (other : List ℕ) → sensor_now (Read name raw ∷ past) other
      ≡ cond (bytes_eq other name) (option_map (λ sensor. good_after sensor raw (tick_of past)) (sensor_now past other)) (sensor_now past other)
  sensors_taken takes =
      sensors_told past (Read name raw) name (Good raw (tick_of past)) (λ sensor. good_after sensor raw (tick_of past)) refl refl (λ other. refl) takes

  pub changes_taken : TakesReading → IsLegal past
      → changes past (Read name raw) ≡ changes_of_sensor name (sensor_now past name) (sensor_now (Read name raw ∷ past) name)
  changes_taken takes =
      changes_told past (Read name raw) name (Good raw (tick_of past)) (λ sensor. good_after sensor raw (tick_of past)) refl refl (λ other. refl) takes

  pub sensors_read : IfSome (sensor_now past name) (λ sensor. IsValidSetting sensor.setting) → (other : List ℕ) → sensor_now (Read name raw ∷ past) other
      ≡ cond (bytes_eq other name) (option_map (λ sensor. good_after sensor raw (tick_of past)) (sensor_now past other)) (sensor_now past other)
  sensors_read valid = sensors_taken (takes_reading valid)

  pub changes_read : IfSome (sensor_now past name) (λ sensor. IsValidSetting sensor.setting) → IsLegal past
      → changes past (Read name raw) ≡ changes_of_sensor name (sensor_now past name) (sensor_now (Read name raw ∷ past) name)
  changes_read valid = changes_taken (takes_reading valid)

module _ (past : List Step) (name : List ℕ) where
  any_takes : IfSome (sensor_now past name) (λ sensor. Takes sensor (lost_after sensor) Lost)
  any_takes = by (sensor_now past name)
    where
      by : (shown : Option Sensor) → IfSome shown (λ sensor. Takes sensor (lost_after sensor) Lost)
      by None = tt
      by (Some sensor) = lost_takes sensor

  pub sensors_lost : (other : List ℕ) → sensor_now (Lose name ∷ past) other
      ≡ cond (bytes_eq other name) (option_map lost_after (sensor_now past other)) (sensor_now past other)
  sensors_lost = sensors_told past (Lose name) name Lost lost_after refl refl (λ other. refl) any_takes

  pub changes_lost : IsLegal past
      → changes past (Lose name) ≡ changes_of_sensor name (sensor_now past name) (sensor_now (Lose name ∷ past) name)
  changes_lost = changes_told past (Lose name) name Lost lost_after refl refl (λ other. refl) any_takes
