-- A step that tells of no live item with which zones have to do leaves the live items that act in zones, and what they ask for.
use Rattle.std.proofs.Common.{◌≡◌, ◌∙◌, ℕ, bytes_eq, List, [], ◌∷◌, ◌++◌, Bool, true, false, not, cond, ◌||◌, map, filter, Option, refl, sym, ap, ap₂, subst}
use Rattle.std.specs.Prelude.{filter_map}
use Rattle.std.specs.List.{AllByRecursion, list_any}
use Rattle.std.specs.Cmp.Lexicographic.{bytes_decides}
use Rattle.std.proofs.lemmas.Bool.{or_left, or_right, true≢false}
use Rattle.std.proofs.lemmas.List.Folds.{list_any-append}
use Rattle.bmc_report.specs.declared.change.Change.{Change}
use Rattle.cfg_json.specs.declared.item.Item.{Item}
use Rattle.cfg_json.specs.declared.item.ItemId.{ItemId}
use Rattle.cfg_json.specs.declared.item.ItemPart.{ItemPart}
use Rattle.cfg_json.specs.declared.item.ItemPart.TheVariants as parts
use Rattle.inventory.specs.Items.{id_eq, items_less}
use Rattle.inventory.specs.Orders.{AreById}
use Rattle.inventory.proofs.IdListsLemmas.{id_swap, lists_one}
use Rattle.inventory.proofs.IdsLemmas.{id_same, live_ascend}
use Rattle.inventory.proofs.ListLemmas.{all_filter, ascending_filter}
use Rattle.inventory.specs.Orders.{id_cmp}
use Rattle.live_sensors.specs.Items.{has_sensor, is_sensor}
use Rattle.live_sensors.specs.Sensors.{LiveSensors, slot_of}
use Rattle.fan_zone.specs.Live.{LiveControl, acts, controls}
use Rattle.bmc_machine.specs.Changes.{Inventory, asks_for, boards_left, changes, changes_between, changes_of_sensors, changes_of_zones, concerns_zones}
use Rattle.bmc_machine.specs.Changes.{inventory, item_change, items_left}
use Rattle.bmc_machine.specs.Histories.{Step}
use Rattle.bmc_machine.specs.Indexes.{items_now, live_now}
use Rattle.bmc_machine.specs.Lives.{has_id}
use Rattle.bmc_machine.specs.Refusals.{IsLegal}
use Rattle.bmc_machine.proofs.HolderLemmas.{IsLive, live_are}
use Rattle.bmc_machine.proofs.ItemLemmas.{items_by_id}
use Rattle.bmc_machine.proofs.StayLemmas.{legal_step, legal_before, same_item}
use Rattle.bmc_machine.proofs.WaitingLemmas.{KeepsInputs}

abbrev acting : List Item → List Item
acting items = filter (λ (item : Item). acts item.part) items

or_none : (one other : Bool) → (one || other) ≡ false → (one ≡ false) × (other ≡ false)
or_none true other none = absurd (cc)
or_none false other none = (refl, none)

-- ---- what is told of live items that are gone or new

-- zones have nothing to do with an item: it does not act in them, and none of these items asks for it
record IsApart (items : List Item) (item : Item) : Type 0 where
  still : acts item.part ≡ false
  unasked : (name : List ℕ) → is_sensor name item ≡ true → list_any (λ (other : Item). asks_for name other.part) items ≡ false

apart_by : (items : List Item) (gone : Bool) (id : ItemId) (name : List ℕ) (part : ItemPart) (less : List Item)
    → list_any (concerns_zones items) (filter_map (item_change gone) (record { id = id; name = name; part = part } ∷ less)) ≡ false
    → IsApart items (record { id = id; name = name; part = part }) × (list_any (concerns_zones items) (filter_map (item_change gone) less) ≡ false)
apart_by items gone id name (parts.Sensor sensor) less none =
    let both = or_none _ _ none in (
      record {
        still = refl;
        unasked = λ other is.
            subst (λ (name : List ℕ). list_any (λ (item : Item). asks_for name item.part) items ≡ false) ((bytes_decides name other).0 is) both.0;
      },
      both.1,
    )
apart_by items gone id name parts.Fan less none = absurd (cc)
apart_by items gone id name (parts.Zone setting) less none = absurd (cc)
apart_by items gone id name (parts.Control control) less none = absurd (cc)
apart_by items gone id name (parts.Mux part) less none = (record { still = refl; unasked = λ other is. absurd (cc) }, none)
apart_by items gone id name parts.Passive less none = (record { still = refl; unasked = λ other is. absurd (cc) }, none)

all_apart : (items : List Item) (gone : Bool) (less : List Item) → list_any (concerns_zones items) (filter_map (item_change gone) less) ≡ false
    → AllByRecursion (IsApart items) less
all_apart items gone [] none = tt
all_apart items gone (item ∷ less) none =
    let first = apart_by items gone item.id item.name item.part less none in
    (first.0, all_apart items gone less first.1)

-- where none of some changes passes a test, none of the first and none of the later ones does
part_told : (test : Change → Bool) (front back : List Change) → list_any test (front ++ back) ≡ false
    → (list_any test front ≡ false) × (list_any test back ≡ false)
part_told test front back none = or_none _ _ (sym (list_any-append test front back) ∙ none)

-- the live items that are here and not there have nothing to do with zones, neither way
pub record AreApart (items here there : List Item) : Type 0 where
  gone : AllByRecursion (IsApart items) (items_less here there)
  new : AllByRecursion (IsApart items) (items_less there here)

apart_between : (items : List Item) (before after : Inventory) → list_any (concerns_zones items) (changes_between before after) ≡ false
    → AreApart items before.live after.live
unfolding changes_between
apart_between items before after none =
    let boards = boards_left true before after ++ boards_left false after before in
    let last = part_told (concerns_zones items) (boards ++ items_left true before after) (items_left false after before) none in
    let first = part_told (concerns_zones items) boards (items_left true before after) last.0 in
    record {
      gone = all_apart items true (items_less before.live after.live) first.1;
      new = all_apart items false (items_less after.live before.live) last.1;
    }

-- where a step tells of no item with which zones have to do, none is gone or new
pub told_apart : (items : List Item) (step : Step) (past : List Step) → list_any (concerns_zones items) (changes past step) ≡ false
    → AreApart items (live_now past) (live_now (step ∷ past))
told_apart items step past none =
    let between = changes_between (inventory past) (inventory (step ∷ past)) in
    let sensed = part_told (concerns_zones items) (between ++ changes_of_sensors past step) (changes_of_zones past step) none in
    apart_between items (inventory past) (inventory (step ∷ past)) (part_told (concerns_zones items) between (changes_of_sensors past step) sensed.0).0

-- ---- the items that act in zones

-- an item that is here and acts is there, where those that are not there do not act
acting_there : (items here there : List Item) → AllByRecursion (IsApart items) (items_less here there)
    → AllByRecursion (λ (item : Item). acts item.part ≡ true → has_id there item.id ≡ true) here
unfolding items_less
acting_there items [] there apart = tt
acting_there items (item ∷ here) there apart = by (has_id there item.id) refl apart (acting_there items here there)
  where
    left : List Item
    left = filter (λ (item : Item). not (has_id there item.id)) here

    by : (has : Bool) → has_id there item.id ≡ has → AllByRecursion (IsApart items) (cond (not has) (item ∷ left) left)
        → (AllByRecursion (IsApart items) left → AllByRecursion (λ (item : Item). acts item.part ≡ true → has_id there item.id ≡ true) here)
        → AllByRecursion (λ (item : Item). acts item.part ≡ true → has_id there item.id ≡ true) (item ∷ here)
    by true is apart later = (λ acts. is, later apart)
    by false is apart later = (λ acting. absurd (true≢false (sym acting ∙ apart.0.still)), later apart.1)

-- an id that is there is there among the items that act, where the items that have it act
has_acting : (Fact : Item → Type 0) (id : ItemId) (there : List Item) → AllByRecursion Fact there
    → ((other : Item) → Fact other → id_eq other.id id ≡ true → acts other.part ≡ true) → has_id there id ≡ true → has_id (acting there) id ≡ true
has_acting Fact id [] facts act has = absurd (cc)
has_acting Fact id (other ∷ there) facts act has =
    by (id_eq other.id id) refl has (acts other.part) refl (has_acting Fact id there facts.1 act)
  where
    by : (same : Bool) → id_eq other.id id ≡ same → (same || has_id there id) ≡ true → (acting_is : Bool) → acts other.part ≡ acting_is
        → (has_id there id ≡ true → has_id (acting there) id ≡ true) → has_id (cond acting_is (other ∷ acting there) (acting there)) id ≡ true
    by true same has true is later = or_left _ _ same
    by true same has false is later = absurd (true≢false (sym (act other facts.0 same) ∙ is))
    by false same has true is later = or_right _ _ (later has)
    by false same has false is later = later has

keep_acting : (Fact Other : Item → Type 0) (here there : List Item) → AllByRecursion Fact here → AllByRecursion Other there
    → ((item other : Item) → Fact item → Other other → item.id ≡ other.id → item ≡ other)
    → AllByRecursion (λ (item : Item). acts item.part ≡ true → has_id there item.id ≡ true) here
    → AllByRecursion (λ (item : Item). has_id (acting there) item.id ≡ true) (acting here)
keep_acting Fact Other [] there facts others one reach = tt
keep_acting Fact Other (item ∷ here) there facts others one reach =
    by (acts item.part) refl (keep_acting Fact Other here there facts.1 others one reach.1)
  where
    by : (is : Bool) → acts item.part ≡ is → AllByRecursion (λ (item : Item). has_id (acting there) item.id ≡ true) (acting here)
        → AllByRecursion (λ (item : Item). has_id (acting there) item.id ≡ true) (cond is (item ∷ acting here) (acting here))
    by true is later = (
      has_acting Other item.id there others
          (λ other fact same.
          ap (λ (each : Item). acts each.part) (sym (one item other facts.0 fact (sym (id_same other.id item.id same)))) ∙ is)
          (reach.0 is),
      later,
    )
    by false is later = later

-- ---- lists of items that have the same ids

any_id : (id : ItemId) (items : List Item) → list_any (id_eq id) (map (λ (item : Item). item.id) items) ≡ has_id items id
any_id id [] = refl
any_id id (item ∷ items) = ap₂ (λ (one other : Bool). one || other) (id_swap id item.id) (any_id id items)

-- an id that is here is there
reaches : (id : ItemId) (here there : List Item) → AllByRecursion (λ (item : Item). has_id there item.id ≡ true) here → has_id here id ≡ true
    → has_id there id ≡ true
reaches id [] there all has = absurd (cc)
reaches id (item ∷ here) there all has = by (id_eq item.id id) refl has (reaches id here there all.1)
  where
    by : (same : Bool) → id_eq item.id id ≡ same → (same || has_id here id) ≡ true → (has_id here id ≡ true → has_id there id ≡ true)
        → has_id there id ≡ true
    by true same has later = subst (λ (each : ItemId). has_id there each ≡ true) (id_same item.id id same) all.0
    by false same has later = later has

both_ways : (one other : Bool) → (one ≡ true → other ≡ true) → (other ≡ true → one ≡ true) → one ≡ other
both_ways true true there back = refl
both_ways true false there back = sym (there refl)
both_ways false true there back = back refl
both_ways false false there back = refl

same_ids : (here there : List Item) → AreById here → AreById there → AllByRecursion (λ (item : Item). has_id there item.id ≡ true) here
    → AllByRecursion (λ (item : Item). has_id here item.id ≡ true) there
    → map (λ (item : Item). item.id) here ≡ map (λ (item : Item). item.id) there
same_ids here there order other_order all back =
    lists_one (map (λ (item : Item). item.id) here) (map (λ (item : Item). item.id) there) (has_id here)
    (record { order = order; each = λ id. any_id id here })
    (record { order = other_order; each = λ id. any_id id there ∙ both_ways _ _ (reaches id there here back) (reaches id here there all) })

-- two lists are one where their elements are, each with the other of its id
one_by_one : (Fact Other : Item → Type 0) → ((item other : Item) → Fact item → Other other → item.id ≡ other.id → item ≡ other)
    → (items others : List Item) → AllByRecursion Fact items → AllByRecursion Other others
    → map (λ (item : Item). item.id) items ≡ map (λ (item : Item). item.id) others → items ≡ others
one_by_one Fact Other one [] [] facts other_facts same = refl
one_by_one Fact Other one [] (other ∷ others) facts other_facts same = absurd (cc)
one_by_one Fact Other one (item ∷ items) [] facts other_facts same = absurd (cc)
one_by_one Fact Other one (item ∷ items) (other ∷ others) facts other_facts same =
    let first : item.id ≡ other.id = cc in
    let more : map (λ (item : Item). item.id) items ≡ map (λ (item : Item). item.id) others = cc in
    ap₂ (λ (item : Item) (items : List Item). item ∷ items) (one item other facts.0 other_facts.0 first)
    (one_by_one Fact Other one items others facts.1 other_facts.1 more)

live_by_id : (past : List Step) → IsLegal past → AreById (live_now past)
unfolding live_now
live_by_id past legal = live_ascend (items_now past) (items_by_id past legal)

acting_by_id : (past : List Step) → IsLegal past → AreById (acting (live_now past))
acting_by_id past legal =
    ascending_filter (λ (item : Item). item.id) id_cmp (λ (item : Item). acts item.part) (live_now past) (live_by_id past legal)

-- where no item with which zones have to do goes or comes, those that act in zones are the same ones
pub acting_stays : (items : List Item) (step : Step) (past : List Step) → IsLegal (step ∷ past) → AreApart items (live_now past) (live_now (step ∷ past))
    → filter (λ (item : Item). acts item.part) (live_now (step ∷ past)) ≡ filter (λ (item : Item). acts item.part) (live_now past)
acting_stays items step past legal apart =
    let here = live_now past in
    let there = live_now (step ∷ past) in
    let one : (item other : Item) → IsLive past item → IsLive (step ∷ past) other → item.id ≡ other.id → item ≡ other =
    λ item other is is_other same. same_item past step (legal_step past step legal) item other is.made is_other.made same in
    let back : (item other : Item) → IsLive (step ∷ past) item → IsLive past other → item.id ≡ other.id → item ≡ other =
    λ item other is is_other same. sym (one other item is_other is (sym same)) in
    sym (one_by_one (IsLive past) (IsLive (step ∷ past)) one (acting here) (acting there)
    (all_filter (IsLive past) (λ (item : Item). acts item.part) here (live_are past))
    (all_filter (IsLive (step ∷ past)) (λ (item : Item). acts item.part) there (live_are (step ∷ past)))
    (same_ids (acting here) (acting there) (acting_by_id past (legal_before past step legal)) (acting_by_id (step ∷ past) legal)
    (keep_acting (IsLive past) (IsLive (step ∷ past)) here there (live_are past) (live_are (step ∷ past)) one (acting_there items here there apart.gone))
    (keep_acting (IsLive (step ∷ past)) (IsLive past) there here (live_are (step ∷ past)) (live_are past) back (acting_there items there here apart.new))))

-- ---- what they ask for

-- a name that one of the items asks for is that of no sensor that is apart
no_sensor : (items less : List Item) (name : List ℕ) → AllByRecursion (IsApart items) less
    → list_any (λ (item : Item). asks_for name item.part) items ≡ true → has_sensor name less ≡ false
no_sensor items [] name apart asked = refl
no_sensor items (item ∷ less) name apart asked = by (is_sensor name item) refl (no_sensor items less name apart.1 asked)
  where
    by : (is : Bool) → is_sensor name item ≡ is → has_sensor name less ≡ false → (is || has_sensor name less) ≡ false
    by true is later = absurd (true≢false (sym asked ∙ apart.0.unasked name is))
    by false is later = later

-- what holds of each name that is among these holds of all
of_all : (P : List ℕ → Type 0) (names : List (List ℕ)) → ((name : List ℕ) → list_any (bytes_eq name) names ≡ true → P name) → AllByRecursion P names
of_all P [] each = tt
of_all P (name ∷ names) each = (
  each name (or_left _ _ ((bytes_decides name name).1 refl)),
  of_all P names (λ other is. each other (or_right (bytes_eq other name) (list_any (bytes_eq other) names) is)),
)

map_of_all : {X : Type 0} (image other : List ℕ → X) (names : List (List ℕ)) → AllByRecursion (λ (name : List ℕ). image name ≡ other name) names
    → map image names ≡ map other names
map_of_all image other [] alike = refl
map_of_all {X} image other (name ∷ names) alike = ap₂ (λ (first : X) (more : List X). first ∷ more) alike.0 (map_of_all image other names alike.1)

-- what names have is alike for the inputs of a controller
abbrev pub HasAlikeInputs : {X : Type 0} → (List ℕ → X) → (List ℕ → X) → LiveControl → Type 0
HasAlikeInputs image other control = map image control.item.inputs ≡ map other control.item.inputs

-- it is for all inputs where it is for each name that is asked for
inputs_alike : {X : Type 0} (image other : List ℕ → X) (items : List Item)
    → ((name : List ℕ) → list_any (λ (item : Item). asks_for name item.part) items ≡ true → image name ≡ other name)
    → AllByRecursion (HasAlikeInputs image other) (controls items)
inputs_alike image other [] alike = tt
inputs_alike {X} image other (item ∷ items) alike =
    by item.id item.part (λ name is. alike name (or_left _ _ is))
    (inputs_alike image other items (λ name is. alike name (or_right (asks_for name item.part) (list_any (λ (item : Item). asks_for name item.part) items) is)))
  where
    by : (id : ItemId) (part : ItemPart) → ((name : List ℕ) → asks_for name part ≡ true → image name ≡ other name)
        → AllByRecursion (HasAlikeInputs image other) (controls items)
        → AllByRecursion (HasAlikeInputs image other) (controls (record { id = id; name = item.name; part = part } ∷ items))
    by id (parts.Control control) asked later = (
      map_of_all image other control.inputs (of_all (λ (name : List ℕ). image name ≡ other name) control.inputs asked),
      later,
    )
    by id (parts.Sensor sensor) asked later = later
    by id parts.Fan asked later = later
    by id (parts.Zone setting) asked later = later
    by id (parts.Mux part) asked later = later
    by id parts.Passive asked later = later

-- where no sensor that goes or comes is asked for, inputs have what each other name has
pub inputs_have : {X : Type 0} (image other : List ℕ → X) (items here there : List Item) → AreApart items here there
    → ((name : List ℕ) → has_sensor name (items_less here there) ≡ false → has_sensor name (items_less there here) ≡ false → image name ≡ other name)
    → AllByRecursion (HasAlikeInputs image other) (controls items)
inputs_have image other items here there apart alike =
    inputs_alike image other items
    (λ name asked. alike name (no_sensor items (items_less here there) name apart.gone asked) (no_sensor items (items_less there here) name apart.new asked))

-- and where each other name keeps its slot, inputs do
pub inputs_stay : (sensors now : LiveSensors) (items here there : List Item) → AreApart items here there
    → ((name : List ℕ) → has_sensor name (items_less here there) ≡ false → has_sensor name (items_less there here) ≡ false
    → slot_of now name ≡ slot_of sensors name)
    → AllByRecursion (KeepsInputs sensors now) (controls items)
inputs_stay sensors now items here there apart keeps =
    inputs_have (slot_of sensors) (slot_of now) items here there apart (λ name gone new. sym (keeps name gone new))
