-- The live items that go and come, by tags.
use Rattle.std.proofs.Common.{◌≡◌, ◌∙◌, ℕ, Bool, true, false, not, cond, ◌&&◌, List, [], ◌∷◌, map, filter}
use Rattle.std.proofs.Common.{Option, Some, None, option_map, slice_get, refl, sym, ap, ap₂, true≢false}
use Rattle.std.specs.Prelude.{find, filter_map}
use Rattle.std.specs.List.{AllByRecursion, IsDistinct, cons_option, list_any}
use Rattle.std.specs.List.Sorted.{IsStrictlySortedBy}
use Rattle.cfg_json.specs.declared.item.Item.{Item}
use Rattle.cfg_json.specs.declared.item.ItemId.{ItemId}
use Rattle.inventory.specs.Bearers.{bearers, is_bearer, leads, leads_less, live_under, name_tag, tag_eq, tag_of, Lists}
use Rattle.inventory.specs.Follows.{item_of}
use Rattle.inventory.specs.Items.{has_name, holder, id_eq, is_live, items_less, live}
use Rattle.inventory.specs.Orders.{id_cmp, AreById, HaveOwnIds}
use Rattle.inventory.specs.declared.family.Family.{Family}
use Rattle.inventory.specs.declared.tag.Tag.{Tag}
use Rattle.inventory.proofs.BearersLemmas.{any_map, any_some, bearers_list, first_bearer, id_at, is_live_id, live_under_some, liver, lives_under, under_live}
use Rattle.inventory.proofs.BearersLemmas.{AreSame}
use Rattle.inventory.proofs.BoardLemmas.{and_both, and_first, and_second}
use Rattle.inventory.proofs.IdListsLemmas.{any_by, id_swap, lists_one}
use Rattle.inventory.proofs.IdsLemmas.{ascending_ids, id_itself, live_ascend}
use Rattle.inventory.proofs.TouchedLemmas.{any_tag, both_ways}
use Rattle.inventory.proofs.ListLemmas.{all_any, all_filter, all_mapped, ascending_filter}

-- ---- what goes

module _ (one other : List Item) (order : AreById one) (same : AreSame one other) (tags : List Tag)
    (rest : (tag : Tag) → list_any (tag_eq tag) tags ≡ false → live_under (bearers one) tag ≡ live_under (bearers other) tag) where
  abbrev less : List Item
  less = items_less (live one) (live other)

  -- an id is live here and there under one tag
  tag_one : (tag twin : Tag) (id : ItemId) → lives_under one tag id ≡ true → lives_under other twin id ≡ true → tag ≡ twin
  tag_one tag twin id is twin_is =
      let here = liver (λ (item : Item). AllByRecursion (λ (twin : Item). id_eq item.id twin.id ≡ true → item ≡ twin) other) one tag id same is in
      let there = liver (λ (twin : Item). id_eq here.0.id twin.id ≡ true → here.0 ≡ twin) other twin id here.3 twin_is in
      let ids : id_eq here.0.id there.0.id ≡ true = ap₂ (λ (a b : ItemId). id_eq a b) (sym here.1) (sym there.1) ∙ id_itself id in
      let both : Some tag ≡ Some twin = sym here.2 ∙ ap tag_of (there.3 ids) ∙ there.2 in
      cc

  not_true : (b : Bool) → (b ≡ true → ⊥) → b ≡ false
  not_true true never = absurd (never refl)
  not_true false never = refl

  not_is : (b : Bool) → not b ≡ true → b ≡ false
  not_is true is = absurd (cc)
  not_is false is = refl

  test_there : (id : ItemId) → (is_live_id one id && not (is_live_id other id)) ≡ true → leads (bearers one) (bearers other) tags id ≡ true
  test_there id is =
      let found = live_under_some one id (and_first _ _ is) in
      let tag = found.0 in
      let gone : is_live_id other id ≡ false = not_is _ (and_second _ _ is) in
      let not_there : lives_under other tag id ≡ false =
      not_true _ (λ there. true≢false (sym (under_live other tag id there) ∙ gone)) in
      let leads_it : leads_less (bearers one) (bearers other) id tag ≡ true = and_both _ _ found.1 (ap not not_there) in
      by tag leads_it not_there found.1 (list_any (tag_eq tag) tags) refl
    where
      by : (tag : Tag) → leads_less (bearers one) (bearers other) id tag ≡ true → lives_under other tag id ≡ false
          → lives_under one tag id ≡ true → (has : Bool) → list_any (tag_eq tag) tags ≡ has
          → leads (bearers one) (bearers other) tags id ≡ true
      by tag leads_it not_there here true has = any_tag (leads_less (bearers one) (bearers other) id) tag tags has leads_it
      by tag leads_it not_there here false has =
          absurd (true≢false (sym here ∙ ap (list_any (id_eq id)) (rest tag has) ∙ not_there))

  test_back : (id : ItemId) → leads (bearers one) (bearers other) tags id ≡ true → (is_live_id one id && not (is_live_id other id)) ≡ true
  test_back id is =
      let found = any_some (leads_less (bearers one) (bearers other) id) (λ _. Unit {0}) tags (all_any (λ _. Unit {0}) (λ _. tt) tags) is in
      let tag = found.0 in
      let here = and_first _ _ found.1 in
      let not_there = not_is _ (and_second _ _ found.1) in
      and_both _ _ (under_live one tag id here) (ap not (not_true _ (λ lives. clash tag here not_there (live_under_some other id lives))))
    where
      clash : (tag : Tag) → lives_under one tag id ≡ true → lives_under other tag id ≡ false
          → ((twin : Tag) × (lives_under other twin id ≡ true)) → ⊥
      clash tag here not_there twin =
          true≢false (sym twin.1 ∙ sym (ap (λ (tag : Tag). lives_under other tag id) (tag_one tag twin.0 id here twin.1)) ∙ not_there)

  less_any : (id : ItemId) → list_any (id_eq id) (map id_at less) ≡ (is_live_id one id && not (is_live_id other id))
  unfolding items_less
  less_any id =
      any_map (id_eq id) id_at (filter (λ (item : Item). not (list_any (λ (other : Item). id_eq other.id item.id) (live other))) (live one))
      ∙ any_by id_at (λ _. true) (λ each. not (list_any (λ (item : Item). id_eq item.id each) (live other))) id (live one)
      ∙ ap (λ (b : Bool). is_live_id one id && not b) (λ i. list_any (λ (item : Item). id_swap item.id id i) (live other))

  less_order : IsStrictlySortedBy id_cmp (map id_at less)
  unfolding items_less
  less_order =
      ascending_filter id_at id_cmp (λ (item : Item). not (list_any (λ (other : Item). id_eq other.id item.id) (live other))) (live one) (live_ascend one order)

  -- the ids of the live items that go
  pub less_ids : Lists (map id_at less) (leads (bearers one) (bearers other) tags)
  less_ids = record { order = less_order; each = λ id. less_any id ∙ both_ways _ _ (test_there id) (test_back id) }

-- ---- items by their ids

pub picked : (pick : ItemId → Option Item) (items : List Item) → AllByRecursion (λ (item : Item). pick item.id ≡ Some item) items
    → filter_map pick (map id_at items) ≡ items
picked pick [] picks = refl
picked pick (item ∷ items) picks = ap₂ (λ (first : Option Item) (more : List Item). cons_option first more) picks.0 (picked pick items picks.1)

-- an item is found by its id
pub own_found : (items : List Item) → HaveOwnIds items → AllByRecursion (λ (item : Item). item_of items item.id ≡ Some item) items
unfolding IsDistinct
own_found [] differ = tt
own_found (item ∷ items) differ = (
  ap (λ (b : Bool). cond b (Some item) (item_of items item.id)) (id_itself item.id),
  later items (all_mapped _ id_at items differ.0) (own_found items differ.1),
)
  where
    later : (these : List Item) → AllByRecursion (λ (other : Item). id_eq item.id other.id ≡ false) these
        → AllByRecursion (λ (other : Item). item_of items other.id ≡ Some other) these
        → AllByRecursion (λ (other : Item). item_of (item ∷ items) other.id ≡ Some other) these
    later [] apart found = tt
    later (other ∷ these) apart found = (
      ap (λ (b : Bool). cond b (Some item) (item_of items other.id)) (id_swap other.id item.id ∙ apart.0) ∙ found.0,
      later these apart.1 found.1,
    )

-- the live items of a list that are left are some of its own
pub less_facts : (Fact : Item → Type 0) (one other : List Item) → AllByRecursion Fact one → AllByRecursion Fact (items_less (live one) (live other))
unfolding items_less live
less_facts Fact one other facts = all_filter Fact _ (filter (is_live one) one) (all_filter Fact (is_live one) one facts)

-- ---- the holder of a name

pub no_item : (item : Option Item) → option_map id_at item ≡ None → item ≡ None
no_item None none = refl
no_item (Some item) none = absurd (cc)

found_at : (items these : List Item) (id : ItemId) (item : Option Item) → AllByRecursion (λ (item : Item). item_of items item.id ≡ Some item) these
    → (test : Item → Bool) → item ≡ find test these → option_map id_at item ≡ Some id → item_of items id ≡ item
found_at items [] id item found test is some = absurd (cc)
found_at items (first ∷ these) id item found test is some = by (test first) is (λ is. found_at items these id item found.1 test is some)
  where
    by : (passes : Bool) → item ≡ cond passes (Some first) (find test these) → (item ≡ find test these → item_of items id ≡ item)
        → item_of items id ≡ item
    by true is later =
        let both : Some first.id ≡ Some id = sym (ap (option_map id_at) is) ∙ some in
        let same : first.id ≡ id = cc in
        ap (item_of items) (sym same) ∙ found.0 ∙ sym is
    by false is later = later is

-- the first of the ids for a name is that of its holder
pub first_is : (items : List Item) → AreById items → (family : Family) (name : List ℕ) (ids : List ItemId)
    → Lists ids (is_bearer items (name_tag family name)) → slice_get ids 0 ≡ option_map id_at (holder items family name)
first_is items order family name ids lists =
    ap (λ (ids : List ItemId). slice_get ids 0)
    (lists_one ids (bearers items (name_tag family name)) (is_bearer items (name_tag family name)) lists
    (bearers_list items (name_tag family name) order))
    ∙ first_bearer items family name

-- the holder of a name is found by its id
pub held_item : (items : List Item) → AreById items → (family : Family) (name : List ℕ) (id : ItemId)
    → option_map id_at (holder items family name) ≡ Some id → item_of items id ≡ holder items family name
held_item items order family name id is =
    found_at items items id (holder items family name) (own_found items (ascending_ids items order)) (has_name family name) refl is
