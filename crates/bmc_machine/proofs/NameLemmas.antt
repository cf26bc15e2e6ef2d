-- Live items of one family have names that differ.
use Rattle.std.proofs.Common.{◌≡◌, ℕ, List, [], ◌∷◌, Bool, true, false, ◌||◌, cond, Option, Some, None, map, filter, refl, sym, ap, ◌∙◌}
use Rattle.std.specs.Prelude.{bytes_eq}
use Rattle.std.specs.List.{AllByRecursion, IsDistinct}
use Rattle.std.specs.Cmp.Lexicographic.{bytes_decides}
use Rattle.std.proofs.lemmas.Bool.{false_from_ne_true, both_ways}
use Rattle.cfg_json.specs.declared.item.Item.{Item}
use Rattle.cfg_json.specs.declared.item.ItemId.{ItemId}
use Rattle.cfg_json.specs.declared.item.ItemPart.{ItemPart}
use Rattle.cfg_json.specs.declared.item.ItemPart.TheVariants as parts
use Rattle.inventory.specs.declared.family.Family.{Family}
use Rattle.inventory.specs.declared.family.Family.TheVariants as families
use Rattle.inventory.specs.Items.{holder, id_eq, is_item, is_live, live}
use Rattle.inventory.specs.Orders.{HaveOwnIds}
use Rattle.inventory.proofs.IdsLemmas.{id_same}
use Rattle.inventory.proofs.ListLemmas.{all_filter, all_map, all_mapped, all_passes, all_weaker}
use Rattle.bmc_machine.specs.Histories.{Step}
use Rattle.bmc_machine.specs.Indexes.{items_now, live_now}
use Rattle.bmc_machine.specs.Names.{is_of, names_of}
use Rattle.bmc_machine.specs.Refusals.{IsLegal}
use Rattle.bmc_machine.proofs.ItemLemmas.{ids_differ}

-- what holds of each element beside what else does
pub all_both : {X : Type 0} (Fact Other : X → Type 0) (xs : List X) → AllByRecursion Fact xs → AllByRecursion Other xs
    → AllByRecursion (λ each. Fact each × Other each) xs
all_both Fact Other [] facts others = tt
all_both Fact Other (first ∷ xs) facts others = ((facts.0, others.0), all_both Fact Other xs facts.1 others.1)

-- those that pass a test have ids of their own
own_ids_left : (test : Item → Bool) (items : List Item) → HaveOwnIds items → HaveOwnIds (filter test items)
unfolding IsDistinct
own_ids_left test [] differ = tt
own_ids_left test (first ∷ items) differ = by (test first) (own_ids_left test items differ.1)
  where
    by : (passes : Bool) → HaveOwnIds (filter test items) → HaveOwnIds (cond passes (first ∷ filter test items) (filter test items))
    by true rest = (all_map _ (λ (item : Item). item.id) _ (all_filter _ test items (all_mapped _ (λ (item : Item). item.id) items differ.0)), rest)
    by false rest = rest

or_none : (test : Bool) → (test || false) ≡ test
or_none true = refl
or_none false = refl

-- an item of a family is live where it holds its name there
pub live_is : (family : Family) (items : List Item) (id : ItemId) (name : List ℕ) (part : ItemPart)
    → is_of family (record { id = id; name = name; part = part }) ≡ true
    → is_live items (record { id = id; name = name; part = part }) ≡ is_item id (holder items family name)
live_is families.Sensor items id name (parts.Sensor sensor) is = or_none (is_item id (holder items families.Sensor name))
live_is families.Zone items id name (parts.Zone setting) is = or_none (is_item id (holder items families.Zone name))
live_is families.Fan items id name parts.Fan is = or_none (is_item id (holder items families.Fan name))
live_is families.Sensor items id name (parts.Zone setting) is = absurd (cc)
live_is families.Sensor items id name parts.Fan is = absurd (cc)
live_is families.Zone items id name (parts.Sensor sensor) is = absurd (cc)
live_is families.Zone items id name parts.Fan is = absurd (cc)
live_is families.Fan items id name (parts.Sensor sensor) is = absurd (cc)
live_is families.Fan items id name (parts.Zone setting) is = absurd (cc)
live_is family items id name (parts.Control control) is = absurd (cc)
live_is family items id name (parts.Mux part) is = absurd (cc)
live_is family items id name parts.Passive is = absurd (cc)

-- a name has one holder
one_holder : (id other : ItemId) (held : Option Item) → is_item id held ≡ true → is_item other held ≡ true → id_eq id other ≡ true
one_holder id other None is is_other = absurd (cc)
one_holder id other (Some item) is is_other = ap (λ (each : ItemId). id_eq each other) (sym (id_same item.id id is)) ∙ is_other

module _ (family : Family) (items : List Item) where
  -- the item holds its name
  abbrev Holds : Item → Type 0
  Holds item = is_item item.id (holder items family item.name) ≡ true

  -- two names that are one have one holder
  one_name : (item other : Item) → Holds item → Holds other → bytes_eq item.name other.name ≡ true → id_eq item.id other.id ≡ true
  one_name item other holds other_holds same =
      one_holder item.id other.id (holder items family other.name)
      (ap (λ name. is_item item.id (holder items family name)) (sym ((bytes_decides item.name other.name).0 same)) ∙ holds) other_holds

  names_apart : (some : List Item) → AllByRecursion Holds some → HaveOwnIds some → IsDistinct bytes_eq (map (λ (item : Item). item.name) some)
  unfolding IsDistinct
  names_apart [] hold differ = tt
  names_apart (first ∷ some) hold differ = (
    all_map _ (λ (item : Item). item.name) some
        (all_weaker _ _ (λ (item : Item) both. false_from_ne_true _ (λ same. both_ways _ both.1 (one_name first item hold.0 both.0 same))) some
        (all_both _ _ some hold.1 (all_mapped _ (λ (item : Item). item.id) some differ.0))),
    names_apart some hold.1 differ.1,
  )

pub names_differ : (family : Family) (items : List Item) → HaveOwnIds items → IsDistinct bytes_eq (names_of family (live items))
unfolding live
names_differ family items differ =
    names_apart family items (filter (is_of family) (filter (is_live items) items))
    (all_weaker _ _ (λ (item : Item) both. sym (live_is family items item.id item.name item.part both.0) ∙ both.1) _
    (all_both _ _ _ (all_passes (is_of family) (filter (is_live items) items))
    (all_filter _ (is_of family) (filter (is_live items) items) (all_passes (is_live items) items))))
    (own_ids_left (is_of family) (filter (is_live items) items) (own_ids_left (is_live items) items differ))

pub live_names_differ : (past : List Step) (family : Family) → IsLegal past → IsDistinct bytes_eq (names_of family (live_now past))
unfolding live_now
live_names_differ past family legal = names_differ family (items_now past) (ids_differ past legal)
