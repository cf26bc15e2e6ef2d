-- Live controllers have ids of their own and stand in live zones, and live zones and fans have names of their own.
use Rattle.std.proofs.Common.{◌≡◌, ℕ, List, [], ◌∷◌, Bool, true, false, cond, ◌||◌, Option, Some, map, refl, sym, ap, ◌∙◌}
use Rattle.std.specs.Prelude.{bytes_eq, is_some}
use Rattle.std.specs.Option.{option_eq}
use Rattle.std.specs.List.{All, AllByRecursion, Contains, IsDistinct, list_any}
use Rattle.std.specs.Cmp.Lexicographic.{bytes_decides}
use Rattle.std.proofs.lemmas.List.Elements.{All-contains, All-from_recursion}
use Rattle.cfg_json.specs.declared.item.Item.{Item}
use Rattle.cfg_json.specs.declared.item.ItemId.{ItemId}
use Rattle.cfg_json.specs.declared.item.ItemPart.{ItemPart}
use Rattle.cfg_json.specs.declared.item.ItemPart.TheVariants as parts
use Rattle.inventory.specs.declared.family.Family.{Family}
use Rattle.inventory.specs.declared.family.Family.TheVariants as families
use Rattle.inventory.specs.Items.{family_of, family_eq, has_name, holder, is_live, live}
use Rattle.inventory.specs.Orders.{HaveOwnIds}
use Rattle.inventory.proofs.IdsLemmas.{ascending_ids, live_ascend}
use Rattle.fan_zone.specs.Live.{id_eq, id_of, LiveControl, with_control, controls, LiveZone, with_zone, zones, LiveFan, fans, zone_id, fan_id, with_fan}
use Rattle.fan_zone.specs.Settings.{HasZone}
use Rattle.bmc_machine.specs.Histories.{Step}
use Rattle.bmc_machine.specs.Indexes.{items_now, live_now}
use Rattle.bmc_machine.specs.Names.{is_of}
use Rattle.bmc_machine.specs.Refusals.{IsLegal}
use Rattle.bmc_machine.proofs.HolderLemmas.{holder_live, IsLive, live_are, live_holds}
use Rattle.bmc_machine.proofs.ItemLemmas.{items_by_id}
use Rattle.bmc_machine.proofs.LiveViewLemmas.{IsView, shown_of, IsControl, controls_all, zone_at, zone_is, zones_view, fan_at, fan_is, fans_view}

-- ---- ids

-- what holds of the ids of items holds of those of their controllers
control_ids : (Fact : ItemId → Type 0) (items : List Item) → AllByRecursion Fact (map (λ (item : Item). item.id) items)
    → AllByRecursion Fact (map id_of (controls items))
control_ids Fact [] facts = tt
control_ids Fact (item ∷ more) facts = by item.part (control_ids Fact more facts.1)
  where
    by : (part : ItemPart) → AllByRecursion Fact (map id_of (controls more)) → AllByRecursion Fact (map id_of (with_control item.id part (controls more)))
    by (parts.Control control) rest = (facts.0, rest)
    by (parts.Sensor sensor) rest = rest
    by parts.Fan rest = rest
    by (parts.Zone setting) rest = rest
    by (parts.Mux part) rest = rest
    by parts.Passive rest = rest

own_control_ids : (items : List Item) → HaveOwnIds items → IsDistinct id_eq (map id_of (controls items))
unfolding IsDistinct
own_control_ids [] differ = tt
own_control_ids (item ∷ more) differ = by item.part (own_control_ids more differ.1)
  where
    by : (part : ItemPart) → IsDistinct id_eq (map id_of (controls more)) → IsDistinct id_eq (map id_of (with_control item.id part (controls more)))
    by (parts.Control control) rest = (control_ids (λ (other : ItemId). id_eq item.id other ≡ false) more differ.0, rest)
    by (parts.Sensor sensor) rest = rest
    by parts.Fan rest = rest
    by (parts.Zone setting) rest = rest
    by (parts.Mux part) rest = rest
    by parts.Passive rest = rest

zone_ids : (Fact : ItemId → Type 0) (items : List Item) → AllByRecursion Fact (map (λ (item : Item). item.id) items)
    → AllByRecursion Fact (map zone_id (zones items))
zone_ids Fact [] facts = tt
zone_ids Fact (item ∷ more) facts = by item.part (zone_ids Fact more facts.1)
  where
    by : (part : ItemPart) → AllByRecursion Fact (map zone_id (zones more)) → AllByRecursion Fact (map zone_id (with_zone item.id item.name part (zones more)))
    by (parts.Control control) rest = rest
    by (parts.Sensor sensor) rest = rest
    by parts.Fan rest = rest
    by (parts.Zone setting) rest = (facts.0, rest)
    by (parts.Mux part) rest = rest
    by parts.Passive rest = rest

own_zone_ids : (items : List Item) → HaveOwnIds items → IsDistinct id_eq (map zone_id (zones items))
unfolding IsDistinct
own_zone_ids [] differ = tt
own_zone_ids (item ∷ more) differ = by item.part (own_zone_ids more differ.1)
  where
    by : (part : ItemPart) → IsDistinct id_eq (map zone_id (zones more)) → IsDistinct id_eq (map zone_id (with_zone item.id item.name part (zones more)))
    by (parts.Control control) rest = rest
    by (parts.Sensor sensor) rest = rest
    by parts.Fan rest = rest
    by (parts.Zone setting) rest = (zone_ids (λ (other : ItemId). id_eq item.id other ≡ false) more differ.0, rest)
    by (parts.Mux part) rest = rest
    by parts.Passive rest = rest

fan_ids : (Fact : ItemId → Type 0) (items : List Item) → AllByRecursion Fact (map (λ (item : Item). item.id) items)
    → AllByRecursion Fact (map fan_id (fans items))
fan_ids Fact [] facts = tt
fan_ids Fact (item ∷ more) facts = by item.part (fan_ids Fact more facts.1)
  where
    by : (part : ItemPart) → AllByRecursion Fact (map fan_id (fans more)) → AllByRecursion Fact (map fan_id (with_fan item.id item.name part (fans more)))
    by (parts.Control control) rest = rest
    by (parts.Sensor sensor) rest = rest
    by parts.Fan rest = (facts.0, rest)
    by (parts.Zone setting) rest = rest
    by (parts.Mux part) rest = rest
    by parts.Passive rest = rest

own_fan_ids : (items : List Item) → HaveOwnIds items → IsDistinct id_eq (map fan_id (fans items))
unfolding IsDistinct
own_fan_ids [] differ = tt
own_fan_ids (item ∷ more) differ = by item.part (own_fan_ids more differ.1)
  where
    by : (part : ItemPart) → IsDistinct id_eq (map fan_id (fans more)) → IsDistinct id_eq (map fan_id (with_fan item.id item.name part (fans more)))
    by (parts.Control control) rest = rest
    by (parts.Sensor sensor) rest = rest
    by parts.Fan rest = (fan_ids (λ (other : ItemId). id_eq item.id other ≡ false) more differ.0, rest)
    by (parts.Zone setting) rest = rest
    by (parts.Mux part) rest = rest
    by parts.Passive rest = rest

-- no two live items have one id, and no two controllers
live_ids : (past : List Step) → IsLegal past → HaveOwnIds (live_now past)
unfolding live_now
live_ids past legal = ascending_ids (live (items_now past)) (live_ascend (items_now past) (items_by_id past legal))

pub ids_apart : (past : List Step) → IsLegal past → IsDistinct id_eq (map id_of (controls (live_now past)))
ids_apart past legal = own_control_ids (live_now past) (live_ids past legal)

pub zone_ids_apart : (past : List Step) → IsLegal past → IsDistinct id_eq (map zone_id (zones (live_now past)))
zone_ids_apart past legal = own_zone_ids (live_now past) (live_ids past legal)

pub fan_ids_apart : (past : List Step) → IsLegal past → IsDistinct id_eq (map fan_id (fans (live_now past)))
fan_ids_apart past legal = own_fan_ids (live_now past) (live_ids past legal)

-- ---- zones of controllers

-- a zone of this name is there where the name is held
zone_held : (name : List ℕ) (items : List Item)
    → list_any (λ (zone : LiveZone). bytes_eq zone.name name) (zones items) ≡ is_some (holder items families.Zone name)
zone_held name [] = refl
zone_held name (item ∷ more) = by item.part (zone_held name more)
  where
    there : Bool
    there = list_any (λ (zone : LiveZone). bytes_eq zone.name name) (zones more)

    held : Option Item
    held = holder more families.Zone name

    either : (named : Bool) → there ≡ is_some held → (named || there) ≡ is_some (cond named (Some item) held)
    either true rest = refl
    either false rest = rest

    by : (part : ItemPart) → there ≡ is_some held
        → list_any (λ (zone : LiveZone). bytes_eq zone.name name) (with_zone item.id item.name part (zones more))
        ≡ is_some (cond (has_name families.Zone name (record { id = item.id; name = item.name; part = part })) (Some item) held)
    by (parts.Zone setting) rest = either (bytes_eq item.name name) rest
    by (parts.Sensor sensor) rest = rest
    by parts.Fan rest = rest
    by (parts.Control control) rest = rest
    by (parts.Mux part) rest = rest
    by parts.Passive rest = rest

zone_is_live : (past : List Step) (item : Item) (control : LiveControl) → IsLive past item → IsControl item control → HasZone (live_now past) control
unfolding live_now
zone_is_live past item control lives is =
    zone_held control.item.zone (live (items_now past)) ∙ ap is_some (holder_live families.Zone control.item.zone (items_now past))
    ∙ ap (λ (part : ItemPart). is_live (items_now past) (record { id = item.id; name = item.name; part = part })) (sym is.part) ∙ lives.live

-- a controller is live only where its zone is
pub placed : (past : List Step) → All (HasZone (live_now past)) (controls (live_now past))
placed past = controls_all (HasZone (live_now past)) (IsLive past) (zone_is_live past) (live_now past) (live_are past)

-- ---- names

-- the live item that is listed
pub live_among : (past : List Step) (item : Item) → Contains (live_now past) item → IsLive past item
live_among past item there =
    All-contains (IsLive past) (live_now past) item (All-from_recursion (IsLive past) (live_now past) (live_are past)) there

module _ {Y : Type 0} {list : List Item → List Y} {id : Y → ItemId} (is : IsView list id) (name : Y → List ℕ) (family : Family)
    (bears : (item : Item) (y : Y) → is.view item ≡ Some y → (name y ≡ item.name) × (is_of family item ≡ true)) (past : List Step) where
  -- two of a family that have one name are one
  named : (y other : Y) → Contains (list (live_now past)) y → Contains (list (live_now past)) other → bytes_eq (name y) (name other) ≡ true → y ≡ other
  named y other there there_too same =
      let one = shown_of is (live_now past) y there in
      let two = shown_of is (live_now past) other there_too in
      let one_bears = bears one.0 y one.2 in
      let two_bears = bears two.0 other two.2 in
      let names : one.0.name ≡ two.0.name = sym one_bears.0 ∙ (bytes_decides (name y) (name other)).0 same ∙ two_bears.0 in
      let held : Some one.0 ≡ Some two.0 =
      sym (live_holds past family one.0 (live_among past one.0 one.1) one_bears.1) ∙ ap (holder (live_now past) family) names
      ∙ live_holds past family two.0 (live_among past two.0 two.1) two_bears.1 in
      let item : one.0 ≡ two.0 = cc in
      let both : Some y ≡ Some other = sym one.2 ∙ ap is.view item ∙ two.2 in
      cc

pub zone_named : (past : List Step) (zone other : LiveZone) → Contains (zones (live_now past)) zone → Contains (zones (live_now past)) other
    → bytes_eq zone.name other.name ≡ true → zone ≡ other
zone_named past =
    named zones_view (λ (zone : LiveZone). zone.name) families.Zone bears past
  where
    bears : (item : Item) (zone : LiveZone) → zone_at item ≡ Some zone → (zone.name ≡ item.name) × (is_of families.Zone item ≡ true)
    bears item zone shows =
        let is = zone_is item zone shows in
        (is.name, ap (λ (part : ItemPart). option_eq family_eq (family_of part) (Some families.Zone)) is.part)

pub fan_named : (past : List Step) (fan other : LiveFan) → Contains (fans (live_now past)) fan → Contains (fans (live_now past)) other
    → bytes_eq fan.name other.name ≡ true → fan ≡ other
fan_named past =
    named fans_view (λ (fan : LiveFan). fan.name) families.Fan bears past
  where
    bears : (item : Item) (fan : LiveFan) → fan_at item ≡ Some fan → (fan.name ≡ item.name) × (is_of families.Fan item ≡ true)
    bears item fan shows =
        let is = fan_is item fan shows in
        (is.name, ap (λ (part : ItemPart). option_eq family_eq (family_of part) (Some families.Fan)) is.part)
