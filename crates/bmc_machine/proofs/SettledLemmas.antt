-- The sensors after a step, from those before it: the ones of items that are gone are dropped, and blank ones are started for new items.
use Rattle.std.proofs.Common.{◌≡◌, ℕ, List, [], ◌∷◌, Bool, true, false, not, cond, ◌&&◌, Option, Some, None, map, filter, refl, sym, ap, ◌∙◌, is_some}
use Rattle.std.specs.Prelude.{⊤, ◌||◌, bytes_eq, option_and_then, option_map}
use Rattle.std.specs.Option.{option_eq, option_or}
use Rattle.std.specs.List.{AllByRecursion, IsDistinct}
use Rattle.std.specs.Cmp.Lexicographic.{bytes_decides, nat_list_eq_equiv}
use Rattle.cfg_json.specs.declared.item.Item.{Item}
use Rattle.cfg_json.specs.declared.item.ItemPart.{ItemPart}
use Rattle.cfg_json.specs.declared.item.ItemPart.TheVariants as parts
use Rattle.inventory.specs.declared.family.Family.{Family}
use Rattle.inventory.specs.declared.family.Family.TheVariants as families
use Rattle.inventory.specs.Items.{family_of, family_eq, has_name, holder, items_less}
use Rattle.inventory.proofs.BoardLemmas.{and_first, and_second}
use Rattle.sensor_core.specs.Sensors.{Sensor, sensor_of}
use Rattle.sensor_core.specs.declared.setting.SensorSetting.{SensorSetting}
use Rattle.bmc_machine.specs.Histories.{Step}
use Rattle.bmc_machine.specs.Indexes.{live_now}
use Rattle.live_sensors.specs.Items.{setting_in, dropped_one, dropped, blank_in, has_sensor, is_sensor, started_one, started, settled}
use Rattle.bmc_machine.specs.Lives.{has_id, IsNoOutcome, sensor_now}
use Rattle.bmc_machine.specs.Names.{is_of, names_of}
use Rattle.bmc_machine.specs.Refusals.{IsLegal}
use Rattle.bmc_machine.proofs.HolderLemmas.{holder_has_id, holder_was, holder_stays}
use Rattle.bmc_machine.proofs.LivesLemmas.{sensor_stays, sensor_blank, sensor_none}
use Rattle.bmc_machine.proofs.NameLemmas.{live_names_differ}
use Rattle.bmc_machine.proofs.StayLemmas.{legal_step, legal_before}

-- ---- names that are given once

module _ (family : Family) where
  -- no item of the family has the name of one before it
  abbrev pub AreNamedOnce : List Item → Type 0
  AreNamedOnce [] = ⊤
  AreNamedOnce (item ∷ items) = (is_of family item ≡ true → holder items family item.name ≡ None) × AreNamedOnce items

  none_named : (name : List ℕ) (items : List Item) → AllByRecursion (λ other. bytes_eq name other ≡ false) (names_of family items)
      → holder items family name ≡ None
  none_named name [] apart = refl
  none_named name (first ∷ items) apart = by (is_of family first) apart (none_named name items)
    where
      by : (is : Bool) → AllByRecursion (λ other. bytes_eq name other ≡ false) (map (λ (item : Item). item.name) (cond is (first ∷ filter (is_of family) items)
          (filter (is_of family) items)))
          → (AllByRecursion (λ other. bytes_eq name other ≡ false) (names_of family items) → holder items family name ≡ None)
          → cond (is && bytes_eq first.name name) (Some first) (holder items family name) ≡ None
      by true apart rest =
          ap (λ (same : Bool). cond same (Some first) (holder items family name)) (nat_list_eq_equiv.symm first.name name ∙ apart.0) ∙ rest apart.1
      by false apart rest = rest apart

  pub named_once : (items : List Item) → IsDistinct bytes_eq (names_of family items) → AreNamedOnce items
  unfolding IsDistinct
  named_once [] differ = tt
  named_once (first ∷ items) differ = by (is_of family first) refl differ (named_once items)
    where
      by : (is : Bool) → is_of family first ≡ is → IsDistinct bytes_eq (map (λ (item : Item). item.name) (cond is (first ∷ filter (is_of family) items)
          (filter (is_of family) items))) → (IsDistinct bytes_eq (names_of family items) → AreNamedOnce items)
          → (is_of family first ≡ true → holder items family first.name ≡ None) × AreNamedOnce items
      by true is differ rest = (λ same. none_named first.name items differ.0, rest differ.1)
      by false is differ rest = (λ same. absurd (cc), rest differ)

  -- where an item has a name none behind it has it
  pub none_behind : (name : List ℕ) (first : Item) (items : List Item) → AreNamedOnce (first ∷ items) → has_name family name first ≡ true
      → holder items family name ≡ None
  none_behind name first items once named =
      ap (holder items family) (sym ((bytes_decides first.name name).0 (and_second (is_of family first) _ named))) ∙ once.0 (and_first _ _ named)

  module _ (test : Item → Bool) where
    abbrev if_passes : Item → Option Item
    if_passes item = cond (test item) (Some item) None

    -- the holder among those that pass a test is the holder among all, if it passes
    holder_filter : (name : List ℕ) (items : List Item) → AreNamedOnce items
        → holder (filter test items) family name ≡ option_and_then if_passes (holder items family name)
    holder_filter name [] once = refl
    holder_filter name (first ∷ items) once = by (has_name family name first) (test first) refl refl (holder_filter name items once.1)
      where
        by : (named passes : Bool) → has_name family name first ≡ named → test first ≡ passes
            → holder (filter test items) family name ≡ option_and_then if_passes (holder items family name)
            → holder (cond passes (first ∷ filter test items) (filter test items)) family name
            ≡ option_and_then if_passes (cond named (Some first) (holder items family name))
        by true true is passes rest =
            ap (λ (b : Bool). cond b (Some first) (holder (filter test items) family name)) is ∙ sym (ap (λ (b : Bool). cond b (Some first) None) passes)
        by true false is passes rest =
            rest ∙ ap (option_and_then if_passes) (none_behind name first items once is) ∙ sym (ap (λ (b : Bool). cond b (Some first) None) passes)
        by false true is passes rest = ap (λ (b : Bool). cond b (Some first) (holder (filter test items) family name)) is ∙ rest
        by false false is passes rest = rest

    once_filter : (items : List Item) → AreNamedOnce items → AreNamedOnce (filter test items)
    once_filter [] once = tt
    once_filter (first ∷ items) once = by (test first) (once_filter items once.1)
      where
        by : (passes : Bool) → AreNamedOnce (filter test items) → AreNamedOnce (cond passes (first ∷ filter test items) (filter test items))
        by true rest = (λ is. holder_filter first.name items once.1 ∙ ap (option_and_then if_passes) (once.0 is), rest)
        by false rest = rest

-- ---- sensors that are dropped and started

-- an item has a setting where it is of the family of sensors
pub of_sensors : (part : ItemPart) → option_eq family_eq (family_of part) (Some families.Sensor) ≡ is_some (setting_in part)
of_sensors (parts.Sensor sensor) = refl
of_sensors parts.Fan = refl
of_sensors (parts.Zone setting) = refl
of_sensors (parts.Control control) = refl
of_sensors (parts.Mux part) = refl
of_sensors parts.Passive = refl

without_is : (item : Item) (name : List ℕ) (sensor : Option Sensor)
    → dropped_one item name sensor ≡ cond (has_name families.Sensor name item) None sensor
without_is item name sensor = ap (λ (is : Bool). cond (is && bytes_eq item.name name) None sensor) (sym (of_sensors item.part))

dropped_is : (items : List Item) (name : List ℕ) (sensor : Option Sensor)
    → dropped items name sensor ≡ cond (is_some (holder items families.Sensor name)) None sensor
dropped_is [] name sensor = refl
dropped_is (item ∷ items) name sensor =
    dropped_is items name _ ∙ ap (cond (is_some (holder items families.Sensor name)) None) (without_is item name sensor)
    ∙ by (has_name families.Sensor name item) (holder items families.Sensor name)
  where
    by : (named : Bool) (held : Option Item) → cond (is_some held) None (cond named None sensor) ≡ cond (is_some (cond named (Some item) held)) None sensor
    by true None = refl
    by true (Some other) = refl
    by false held = refl

started_one_is : (item : Item) (name : List ℕ) (sensor : Option Sensor)
    → started_one item name sensor ≡ cond (has_name families.Sensor name item) (blank_in item.part) sensor
started_one_is item name sensor = by item.part (bytes_eq item.name name)
  where
    by : (part : ItemPart) (named : Bool) → cond named (option_or (blank_in part) sensor) sensor
        ≡ cond (option_eq family_eq (family_of part) (Some families.Sensor) && named) (blank_in part) sensor
    by (parts.Sensor part) named = refl
    by parts.Fan true = refl
    by parts.Fan false = refl
    by (parts.Zone setting) true = refl
    by (parts.Zone setting) false = refl
    by (parts.Control control) true = refl
    by (parts.Control control) false = refl
    by (parts.Mux part) true = refl
    by (parts.Mux part) false = refl
    by parts.Passive true = refl
    by parts.Passive false = refl

-- the blank sensor of a holder, if there is one
abbrev blank_or : Option Sensor → Option Item → Option Sensor
blank_or sensor None = sensor
blank_or sensor (Some item) = blank_in item.part

started_is : (items : List Item) (name : List ℕ) (sensor : Option Sensor) → AreNamedOnce families.Sensor items
    → started items name sensor ≡ blank_or sensor (holder items families.Sensor name)
started_is [] name sensor once = refl
started_is (item ∷ items) name sensor once =
    started_is items name _ once.1 ∙ ap (λ (it : Option Sensor). blank_or it (holder items families.Sensor name)) (started_one_is item name sensor)
    ∙ by (has_name families.Sensor name item) refl
  where
    by : (named : Bool) → has_name families.Sensor name item ≡ named → blank_or (cond named (blank_in item.part) sensor) (holder items families.Sensor name)
        ≡ blank_or sensor (cond named (Some item) (holder items families.Sensor name))
    by true is = ap (blank_or (blank_in item.part)) (none_behind families.Sensor name item items once is)
    by false is = refl

-- the sensor of a name is not dropped with items that are no sensor of the name
not_dropped : (items : List Item) (name : List ℕ) (sensor : Option Sensor) → has_sensor name items ≡ false → dropped items name sensor ≡ sensor
not_dropped [] name sensor none = refl
not_dropped (item ∷ items) name sensor none = by (is_sensor name item) none (not_dropped items name sensor)
  where
    by : (is : Bool) → (is || has_sensor name items) ≡ false → (has_sensor name items ≡ false → dropped items name sensor ≡ sensor)
        → dropped items name (cond is None sensor) ≡ sensor
    by true none rest = absurd (cc)
    by false none rest = rest none

-- nor is one started for them
not_started : (items : List Item) (name : List ℕ) (sensor : Option Sensor) → has_sensor name items ≡ false → started items name sensor ≡ sensor
not_started [] name sensor none = refl
not_started (item ∷ items) name sensor none = by (setting_in item.part) (bytes_eq item.name name) none (not_started items name sensor)
  where
    by : (setting : Option SensorSetting) (named : Bool) → ((is_some setting && named) || has_sensor name items) ≡ false
        → (has_sensor name items ≡ false → started items name sensor ≡ sensor)
        → started items name (cond named (option_or (option_map (λ its. sensor_of its []) setting) sensor) sensor) ≡ sensor
    by None true none rest = rest none
    by None false none rest = rest none
    by (Some its) true none rest = absurd (cc)
    by (Some its) false none rest = rest none

-- ---- items that are gone and new

-- an item, if its id is not among these
abbrev if_not_in : List Item → Item → Option Item
if_not_in there item = cond (not (has_id there item.id)) (Some item) None

less_is : (here there : List Item) (name : List ℕ) → AreNamedOnce families.Sensor here
    → holder (items_less here there) families.Sensor name ≡ option_and_then (if_not_in there) (holder here families.Sensor name)
unfolding items_less
less_is here there name once = holder_filter families.Sensor (λ (item : Item). not (has_id there item.id)) name here once

less_once : (here there : List Item) → AreNamedOnce families.Sensor here → AreNamedOnce families.Sensor (items_less here there)
unfolding items_less
less_once here there once = once_filter families.Sensor (λ (item : Item). not (has_id there item.id)) here once

module _ (old new : List Item) (once : AreNamedOnce families.Sensor old) (once_new : AreNamedOnce families.Sensor new) (name : List ℕ) where
  -- what is settled, by the holders of the name before and after
  settled_is : (sensor : Option Sensor) → settled (items_less old new) (items_less new old) name sensor
      ≡ blank_or (cond (is_some (option_and_then (if_not_in new) (holder old families.Sensor name))) None sensor)
      (option_and_then (if_not_in old) (holder new families.Sensor name))
  settled_is sensor =
      started_is (items_less new old) name _ (less_once new old once_new)
      ∙ ap (blank_or _) (less_is new old name once_new)
      ∙ ap (λ (it : Option Sensor). blank_or it (option_and_then (if_not_in old) (holder new families.Sensor name)))
      (dropped_is (items_less old new) name sensor
      ∙ ap (λ (held : Option Item). cond (is_some held) None sensor) (less_is old new name once))

-- ---- over a step

-- no two live sensors have one name
pub live_once : (past : List Step) → IsLegal past → AreNamedOnce families.Sensor (live_now past)
live_once past legal = named_once families.Sensor (live_now past) (live_names_differ past families.Sensor legal)

module _ (past : List Step) (step : Step) (legal : IsLegal (step ∷ past)) (watched : IsNoOutcome step)
    (name : List ℕ) where
  -- what is left of the sensor before the step, where this item held the name then
  abbrev left : Option Item → Option Sensor
  left held = cond (is_some (option_and_then (if_not_in (live_now (step ∷ past))) held)) None (sensor_now past name)

  -- no item holds the name any more: one that did is gone
  none_left : (held : Option Item) → holder (live_now past) families.Sensor name ≡ held → holder (live_now (step ∷ past)) families.Sensor name ≡ None
      → left held ≡ None
  none_left None was is = sensor_none past name was
  none_left (Some item) was is = by (has_id (live_now (step ∷ past)) item.id) refl
    where
      by : (lives : Bool) → has_id (live_now (step ∷ past)) item.id ≡ lives
          → cond (is_some (cond (not lives) (Some item) None)) None (sensor_now past name) ≡ None
      by true lives =
          let held : holder (live_now (step ∷ past)) families.Sensor name ≡ Some item =
          holder_stays past step (legal_step past step legal) families.Sensor name item was lives in
          absurd (cc)
      by false gone = refl

  of_holder : (held : Option Item) → holder (live_now (step ∷ past)) families.Sensor name ≡ held
      → blank_or (left (holder (live_now past) families.Sensor name)) (option_and_then (if_not_in (live_now past)) held) ≡ sensor_now (step ∷ past) name
  of_holder None is = none_left (holder (live_now past) families.Sensor name) refl is ∙ sym (sensor_none (step ∷ past) name is)
  of_holder (Some item) is = by (has_id (live_now past) item.id) refl
    where
      by : (lived : Bool) → has_id (live_now past) item.id ≡ lived
          → blank_or (left (holder (live_now past) families.Sensor name)) (cond (not lived) (Some item) None) ≡ sensor_now (step ∷ past) name
      by true lived =
          ap left (holder_was past step (legal_step past step legal) families.Sensor name item is lived)
          ∙ ap (λ (lives : Bool). cond (is_some (cond (not lives) (Some item) None)) None (sensor_now past name))
          (holder_has_id families.Sensor name (live_now (step ∷ past)) item is)
          ∙ sym (sensor_stays past step watched name item (legal_step past step legal) is lived)
      by false absent = sym (sensor_blank past step name item is absent)

  pub sensor_settled : sensor_now (step ∷ past) name ≡ settled (items_less (live_now past) (live_now (step ∷ past)))
      (items_less (live_now (step ∷ past)) (live_now past)) name (sensor_now past name)
  sensor_settled =
      sym (settled_is (live_now past) (live_now (step ∷ past)) (live_once past (legal_before past step legal)) (live_once (step ∷ past) legal) name
      (sensor_now past name) ∙ of_holder (holder (live_now (step ∷ past)) families.Sensor name) refl)

  -- a name keeps its sensor where no sensor of the name goes or comes
  pub sensor_kept : has_sensor name (items_less (live_now past) (live_now (step ∷ past))) ≡ false
      → has_sensor name (items_less (live_now (step ∷ past)) (live_now past)) ≡ false → sensor_now (step ∷ past) name ≡ sensor_now past name
  sensor_kept gone new =
      sensor_settled
      ∙ not_started (items_less (live_now (step ∷ past)) (live_now past)) name _ new
      ∙ not_dropped (items_less (live_now past) (live_now (step ∷ past))) name (sensor_now past name) gone
