-- The controllers, zones and fans of items: each is that of an item.
use Rattle.std.proofs.Common.{◌≡◌, ℕ, List, [], ◌∷◌, Option, Some, None, refl, sym, ap, ◌∙◌, subst}
use Rattle.std.specs.Prelude.{filter_map}
use Rattle.std.specs.List.{All, AllByRecursion, Contains, cons_option}
use Rattle.std.proofs.lemmas.List.Elements.{All-contains, All-contains_itself, All-from_recursion, recursion_from_All, Contains-append_left}
use Rattle.std.proofs.lemmas.List.Elements.{Contains-append_right, Contains-push}
use Rattle.cfg_json.specs.declared.item.Item.{Item}
use Rattle.cfg_json.specs.declared.item.ItemId.{ItemId}
use Rattle.cfg_json.specs.declared.item.ItemPart.{ItemPart}
use Rattle.cfg_json.specs.declared.item.ItemPart.TheVariants as parts
use Rattle.inventory.proofs.ListLemmas.{all_weaker}
use Rattle.fan_zone.specs.Live.{id_of, LiveControl, with_control, controls, LiveZone, with_zone, zones, LiveFan, with_fan, fans}
use Rattle.bmc_machine.proofs.MadeLemmas.{all_filter_map}

-- ---- lists

module _ {X Y : Type 0} (view : X → Option Y) (xs : List X) where
  abbrev IsShown : Y → Type 0
  IsShown y = (x : X) × Contains xs x × (view x ≡ Some y)

  -- what is shown is shown of an element
  among_of : (y : Y) → Contains (filter_map view xs) y → (x : X) × Contains xs x × (view x ≡ Some y)
  among_of y there =
      All-contains IsShown (filter_map view xs) y
      (All-from_recursion IsShown (filter_map view xs)
      (all_filter_map IsShown (Contains xs) view (λ x among y is. (x, among, is)) xs
      (recursion_from_All (Contains xs) xs (All-contains_itself xs)))) there

module _ {X Y : Type 0} (view : X → Option Y) where
  abbrev Shows : List Y → X → Type 0
  Shows ys x = (y : Y) → view x ≡ Some y → Contains ys y

  shows_all : (xs : List X) → AllByRecursion (Shows (filter_map view xs)) xs
  shows_all [] = tt
  shows_all (first ∷ xs) = (
    λ y is. subst (λ (made : Option Y). Contains (cons_option made (filter_map view xs)) y) (sym is)
        (Contains-append_left (y ∷ []) (filter_map view xs) y (Contains-push [] y)),
    all_weaker (Shows (filter_map view xs)) (Shows (filter_map view (first ∷ xs))) (λ x shows y is. later (view first) y (shows y is)) xs (shows_all xs),
  )
    where
      later : (made : Option Y) (y : Y) → Contains (filter_map view xs) y → Contains (cons_option made (filter_map view xs)) y
      later None y there = there
      later (Some other) y there = Contains-append_right (other ∷ []) (filter_map view xs) y there

  -- and what an element shows is shown
  among_in : (xs : List X) (x : X) (y : Y) → Contains xs x → view x ≡ Some y → Contains (filter_map view xs) y
  among_in xs x y there =
      All-contains (Shows (filter_map view xs)) xs x (All-from_recursion (Shows (filter_map view xs)) xs (shows_all xs)) there y

-- ---- views

-- a list of what items are, in item order, each with the id of its item
pub record IsView {Y : Type 0} (list : List Item → List Y) (id : Y → ItemId) : Type 0 where
  pub view : Item → Option Y
  pub all : (items : List Item) → list items ≡ filter_map view items
  pub owns : (item : Item) (y : Y) → view item ≡ Some y → id y ≡ item.id

module _ {Y : Type 0} {list : List Item → List Y} {id : Y → ItemId} (is : IsView list id) (items : List Item) where
  -- what is in the list is shown of an item
  pub shown_of : (y : Y) → Contains (list items) y → (item : Item) × Contains items item × (is.view item ≡ Some y)
  shown_of y there = among_of is.view items y (subst (λ (ys : List Y). Contains ys y) (is.all items) there)

  -- and what is shown of an item is in the list
  pub shown_in : (item : Item) (y : Y) → Contains items item → is.view item ≡ Some y → Contains (list items) y
  shown_in item y there shows = subst (λ (ys : List Y). Contains ys y) (sym (is.all items)) (among_in is.view items item y there shows)

-- ---- controllers

-- the controller that an item is, if it is one
abbrev pub control_in : ItemId → ItemPart → Option LiveControl
control_in id (parts.Control control) = Some (record { id = id; item = control })
control_in id (parts.Sensor sensor) = None
control_in id parts.Fan = None
control_in id (parts.Zone setting) = None
control_in id (parts.Mux part) = None
control_in id parts.Passive = None

abbrev pub control_of : Item → Option LiveControl
control_of item = control_in item.id item.part

pub controls_are : (items : List Item) → controls items ≡ filter_map control_of items
controls_are [] = refl
controls_are (item ∷ more) = by item.part ∙ ap (cons_option (control_of item)) (controls_are more)
  where
    by : (part : ItemPart) → with_control item.id part (controls more) ≡ cons_option (control_in item.id part) (controls more)
    by (parts.Control control) = refl
    by (parts.Sensor sensor) = refl
    by parts.Fan = refl
    by (parts.Zone setting) = refl
    by (parts.Mux part) = refl
    by parts.Passive = refl

pub record IsControl (item : Item) (control : LiveControl) : Type 0 where
  pub id : control.id ≡ item.id
  pub part : item.part ≡ parts.Control control.item

pub control_is : (item : Item) (control : LiveControl) → control_of item ≡ Some control → IsControl item control
control_is item control is = by item.part refl is
  where
    by : (part : ItemPart) → item.part ≡ part → control_in item.id part ≡ Some control → IsControl item control
    by (parts.Control shown) part is =
        let same : record { id = item.id; item = shown } ≡ control = cc in
        record { id = ap id_of (sym same); part = part ∙ ap (λ (each : LiveControl). parts.Control each.item) same }
    by (parts.Sensor sensor) part is = absurd (cc)
    by parts.Fan part is = absurd (cc)
    by (parts.Zone setting) part is = absurd (cc)
    by (parts.Mux mux) part is = absurd (cc)
    by parts.Passive part is = absurd (cc)

abbrev pub controls_view : IsView controls id_of
controls_view = record { view = control_of; all = controls_are; owns = λ item control shows. (control_is item control shows).id }

-- what follows of items holds of the controllers
pub controls_all : (Fact : LiveControl → Type 0) (Cause : Item → Type 0)
    → ((item : Item) (control : LiveControl) → Cause item → IsControl item control → Fact control) → (items : List Item) → AllByRecursion Cause items
    → All Fact (controls items)
controls_all Fact Cause gives items causes =
    subst (All Fact) (sym (controls_are items))
    (All-from_recursion Fact (filter_map control_of items)
    (all_filter_map Fact Cause control_of (λ item cause control is. gives item control cause (control_is item control is)) items causes))

-- ---- zones

-- the zone that an item is, if it is one
abbrev pub zone_in : ItemId → List ℕ → ItemPart → Option LiveZone
zone_in id name (parts.Zone setting) = Some (record { id = id; name = name; setting = setting })
zone_in id name (parts.Sensor sensor) = None
zone_in id name parts.Fan = None
zone_in id name (parts.Control control) = None
zone_in id name (parts.Mux part) = None
zone_in id name parts.Passive = None

abbrev pub zone_at : Item → Option LiveZone
zone_at item = zone_in item.id item.name item.part

pub zones_are : (items : List Item) → zones items ≡ filter_map zone_at items
zones_are [] = refl
zones_are (item ∷ more) = by item.part ∙ ap (cons_option (zone_at item)) (zones_are more)
  where
    by : (part : ItemPart) → with_zone item.id item.name part (zones more) ≡ cons_option (zone_in item.id item.name part) (zones more)
    by (parts.Zone setting) = refl
    by (parts.Sensor sensor) = refl
    by parts.Fan = refl
    by (parts.Control control) = refl
    by (parts.Mux part) = refl
    by parts.Passive = refl

pub record IsZone (item : Item) (zone : LiveZone) : Type 0 where
  pub id : zone.id ≡ item.id
  pub name : zone.name ≡ item.name
  pub part : item.part ≡ parts.Zone zone.setting

pub zone_is : (item : Item) (zone : LiveZone) → zone_at item ≡ Some zone → IsZone item zone
zone_is item zone is = by item.part refl is
  where
    by : (part : ItemPart) → item.part ≡ part → zone_in item.id item.name part ≡ Some zone → IsZone item zone
    by (parts.Zone shown) part is =
        let same : record { id = item.id; name = item.name; setting = shown } ≡ zone = cc in
        record {
          id = ap (λ (each : LiveZone). each.id) (sym same);
          name = ap (λ (each : LiveZone). each.name) (sym same);
          part = part ∙ ap (λ (each : LiveZone). parts.Zone each.setting) same;
        }
    by (parts.Sensor sensor) part is = absurd (cc)
    by parts.Fan part is = absurd (cc)
    by (parts.Control control) part is = absurd (cc)
    by (parts.Mux mux) part is = absurd (cc)
    by parts.Passive part is = absurd (cc)

abbrev pub zone_id : LiveZone → ItemId
zone_id zone = zone.id

abbrev pub zones_view : IsView zones zone_id
zones_view = record { view = zone_at; all = zones_are; owns = λ item zone shows. (zone_is item zone shows).id }

-- what follows of items holds of the zones
pub zones_all : (Fact : LiveZone → Type 0) (Cause : Item → Type 0)
    → ((item : Item) (zone : LiveZone) → Cause item → IsZone item zone → Fact zone) → (items : List Item) → AllByRecursion Cause items
    → All Fact (zones items)
zones_all Fact Cause gives items causes =
    subst (All Fact) (sym (zones_are items))
    (All-from_recursion Fact (filter_map zone_at items)
    (all_filter_map Fact Cause zone_at (λ item cause zone is. gives item zone cause (zone_is item zone is)) items causes))

-- ---- fans

-- the fan that an item is, if it is one
abbrev pub fan_in : ItemId → List ℕ → ItemPart → Option LiveFan
fan_in id name parts.Fan = Some (record { id = id; name = name })
fan_in id name (parts.Sensor sensor) = None
fan_in id name (parts.Zone setting) = None
fan_in id name (parts.Control control) = None
fan_in id name (parts.Mux part) = None
fan_in id name parts.Passive = None

abbrev pub fan_at : Item → Option LiveFan
fan_at item = fan_in item.id item.name item.part

pub fans_are : (items : List Item) → fans items ≡ filter_map fan_at items
fans_are [] = refl
fans_are (item ∷ more) = by item.part ∙ ap (cons_option (fan_at item)) (fans_are more)
  where
    by : (part : ItemPart) → with_fan item.id item.name part (fans more) ≡ cons_option (fan_in item.id item.name part) (fans more)
    by parts.Fan = refl
    by (parts.Sensor sensor) = refl
    by (parts.Zone setting) = refl
    by (parts.Control control) = refl
    by (parts.Mux part) = refl
    by parts.Passive = refl

pub record IsFan (item : Item) (fan : LiveFan) : Type 0 where
  pub id : fan.id ≡ item.id
  pub name : fan.name ≡ item.name
  pub part : item.part ≡ parts.Fan

pub fan_is : (item : Item) (fan : LiveFan) → fan_at item ≡ Some fan → IsFan item fan
fan_is item fan is = by item.part refl is
  where
    by : (part : ItemPart) → item.part ≡ part → fan_in item.id item.name part ≡ Some fan → IsFan item fan
    by parts.Fan part is =
        let same : record { id = item.id; name = item.name } ≡ fan = cc in
        record {
          id = ap (λ (each : LiveFan). each.id) (sym same);
          name = ap (λ (each : LiveFan). each.name) (sym same);
          part = part;
        }
    by (parts.Sensor sensor) part is = absurd (cc)
    by (parts.Zone setting) part is = absurd (cc)
    by (parts.Control control) part is = absurd (cc)
    by (parts.Mux mux) part is = absurd (cc)
    by parts.Passive part is = absurd (cc)

abbrev pub fan_id : LiveFan → ItemId
fan_id fan = fan.id

abbrev pub fans_view : IsView fans fan_id
fans_view = record { view = fan_at; all = fans_are; owns = λ item fan shows. (fan_is item fan shows).id }
