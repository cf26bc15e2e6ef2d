-- What a step makes of the live items.
use Rattle.std.proofs.Common.{◌≡◌, ◌∙◌, Bool, true, false, not, cond, ◌||◌, ◌&&◌, List, [], ◌∷◌, map, filter}
use Rattle.std.proofs.Common.{Option, Some, None, refl, sym, ap, ap₂, subst, true≢false}
use Rattle.std.specs.Prelude.{filter_map, find}
use Rattle.std.specs.Option.{option_or, unwrap_or}
use Rattle.std.specs.List.{AllByRecursion, list_any}
use Rattle.cfg_json.specs.declared.item.Item.{Item}
use Rattle.cfg_json.specs.declared.item.ItemId.{ItemId}
use Rattle.inventory.specs.Bearers.{bearers, bears, tag_eq, ids_in, ids_over, is_bearer, leads, touched, AreBorne, Lists}
use Rattle.inventory.specs.Follows.{is_on, item_of, key_eq, off, on, Follows}
use Rattle.inventory.specs.Items.{id_eq, items_less, live}
use Rattle.inventory.specs.Orders.{exposer, AreById}
use Rattle.inventory.specs.declared.board.BoardKey.{BoardKey}
use Rattle.inventory.specs.declared.tag.Tag.{Tag}
use Rattle.inventory.proofs.IdListsLemmas.{any_by, lists_one}
use Rattle.inventory.proofs.IdsLemmas.{ascending_ids, id_same}
use Rattle.inventory.proofs.BearersLemmas.{bearers_list, AreSame}
use Rattle.inventory.proofs.LeadsLemmas.{less_facts, less_ids, own_found, picked}
use Rattle.inventory.proofs.ListLemmas.{all_weaker}
use Rattle.inventory.proofs.NotesLemmas.{borne_alike}
use Rattle.inventory.proofs.TagsLemmas.{no_key}
use Rattle.inventory.proofs.TouchedLemmas.{untouched}
use Rattle.inventory.proofs.FollowsLemmas.{all_fail}
use Rattle.inventory.proofs.ShownLemmas.{find_kept, id_of}

-- ---- what is found

find_fails : {X : Type 0} (test keep : X → Bool) → ((x : X) → test x ≡ true → keep x ≡ false) → (xs : List X) → find test (filter keep xs) ≡ None
find_fails test keep fails [] = refl
find_fails {X} test keep fails (first ∷ xs) = by (keep first) refl (test first) refl (find_fails test keep fails xs)
  where
    by : (kept : Bool) → keep first ≡ kept → (is : Bool) → test first ≡ is → find test (filter keep xs) ≡ None
        → find test (cond kept (first ∷ filter keep xs) (filter keep xs)) ≡ None
    by true kept true is later = absurd (true≢false (sym kept ∙ fails first is))
    by true kept false is later = ap (λ (b : Bool). cond b (Some first) (find test (filter keep xs))) is ∙ later
    by false kept is is_is later = later

-- an item with the id of another is on the same board
on_same : (keys : List BoardKey) (item twin : Item) → id_eq item.id twin.id ≡ true → is_on keys twin ≡ is_on keys item
on_same keys item twin same = sym (ap (λ (id : ItemId). list_any (key_eq (exposer id)) keys) (id_same item.id twin.id same))

-- ---- a step

module _ (gone keys : List BoardKey) (old coming next : List Item) (old_order : AreById old) (follows : Follows gone keys old coming next) where
  -- what an item of the next list is found as
  next_found : AllByRecursion (λ (item : Item). item_of next item.id ≡ Some item) next
  next_found = own_found next (ascending_ids next follows.order)

  old_found : AllByRecursion (λ (item : Item). item_of old item.id ≡ Some item) old
  old_found = own_found old (ascending_ids old old_order)

  left_off : AllByRecursion (λ (item : Item). is_on gone item ≡ false) next
  left_off = all_fail (is_on gone) next follows.left

  fresh_off : AllByRecursion (λ (item : Item). is_on keys item ≡ false) old
  fresh_off = all_fail (is_on keys) old follows.fresh

  -- an item that comes
  come_found : (item : Item) → is_on keys item ≡ true → item_of next item.id ≡ Some item → item_of coming item.id ≡ Some item
  come_found item is found =
      ap (λ (items : List Item). item_of items item.id) (sym follows.come)
      ∙ find_kept (λ (twin : Item). id_eq item.id twin.id) (is_on keys) (λ twin same. on_same keys item twin same ∙ is) next ∙ found

  -- an item that stays
  stay_found : (item : Item) → is_on keys item ≡ false → is_on gone item ≡ false → item_of next item.id ≡ Some item → item_of old item.id ≡ Some item
  stay_found item is left found =
      sym (find_kept (λ (twin : Item). id_eq item.id twin.id) (λ (twin : Item). not (is_on gone twin))
      (λ twin same. ap not (on_same gone item twin same ∙ left)) old)
      ∙ ap (λ (items : List Item). item_of items item.id) follows.stay
      ∙ find_kept (λ (twin : Item). id_eq item.id twin.id) (λ (twin : Item). not (is_on keys twin))
      (λ twin same. ap not (on_same keys item twin same ∙ is)) next
      ∙ found

  not_coming : (item : Item) → is_on keys item ≡ false → item_of coming item.id ≡ None
  not_coming item is =
      ap (λ (items : List Item). item_of items item.id) (sym follows.come)
      ∙ find_fails (λ (twin : Item). id_eq item.id twin.id) (is_on keys) (λ twin same. on_same keys item twin same ∙ is) next

  both_facts : {X : Type 0} (One Two Three : X → Type 0) → ((x : X) → One x → Two x → Three x) → (xs : List X) → AllByRecursion One xs → AllByRecursion Two xs
      → AllByRecursion Three xs
  both_facts One Two Three gives [] one two = tt
  both_facts One Two Three gives (x ∷ xs) one two = (gives x one.0 two.0, both_facts One Two Three gives xs one.1 two.1)

  next_picked : AllByRecursion (λ (item : Item). option_or (item_of coming item.id) (item_of old item.id) ≡ Some item) next
  next_picked = both_facts _ _ _ (λ item found left. by item found left (is_on keys item) refl) next next_found left_off
    where
      by : (item : Item) → item_of next item.id ≡ Some item → is_on gone item ≡ false → (is : Bool) → is_on keys item ≡ is
          → option_or (item_of coming item.id) (item_of old item.id) ≡ Some item
      by item found left true is = ap (λ (found : Option Item). option_or found (item_of old item.id)) (come_found item is found)
      by item found left false is = ap₂ (λ (one two : Option Item). option_or one two) (not_coming item is) (stay_found item is left found)

  old_picked : AllByRecursion (λ (item : Item). option_or (item_of old item.id) (item_of coming item.id) ≡ Some item) old
  old_picked = all_weaker _ _ (λ (item : Item) found. ap (λ (first : Option Item). option_or first (item_of coming item.id)) found) old old_found

  -- items of both with the same id are the same
  same_in : (item : Item) → item_of old item.id ≡ Some item → is_on keys item ≡ false → (twin : Item) → item_of next twin.id ≡ Some twin
      → is_on gone twin ≡ false
      → id_eq item.id twin.id ≡ true → item ≡ twin
  same_in item found off twin twin_found twin_left same =
      let twin_off : is_on keys twin ≡ false = on_same keys item twin same ∙ off in
      let both : Some item ≡ Some twin =
      sym found ∙ ap (item_of old) (id_same item.id twin.id same) ∙ stay_found twin twin_off twin_left twin_found in
      cc

  pub same_items : AreSame old next
  same_items = both_facts _ _ _ (λ item found off.
      both_facts _ _ _ (λ twin twin_found twin_left. same_in item found off twin twin_found twin_left) next next_found left_off) old old_found fresh_off

  turn_same : AreSame next old
  turn_same = both_facts _ _ _ (λ twin twin_found twin_left.
      both_facts _ _ _ (λ item found off. λ same.
      sym (same_in item found off twin twin_found twin_left (swapped twin.id item.id same))) old old_found fresh_off)
      next next_found left_off
    where
      swapped : (id other : ItemId) → id_eq id other ≡ true → id_eq other id ≡ true
      swapped id other same = subst (λ (each : ItemId). id_eq each id ≡ true) (id_same id other same)
          (subst (λ (each : ItemId). id_eq id each ≡ true) (sym (id_same id other same)) same)

  -- ---- the ids that are noted

  pub borne_next : (over tags : List (Tag × List ItemId))
      → AreBorne over tags (λ tag id. (is_bearer old tag id && not (is_bearer (on gone old) tag id)) || is_bearer coming tag id)
      → AreBorne over tags (is_bearer next)
  borne_next over tags borne = borne_alike over tags _ (is_bearer next) borne (λ tag id.
      ap₂ (λ (one two : Bool). one || two)
      (ap (λ (b : Bool). is_bearer old tag id && not b) (part old tag id gone)
      ∙ but_part (is_bearer old tag id) (list_any (key_eq (exposer id)) gone)
      ∙ sym (off_part old tag id gone)
      ∙ ap (λ (items : List Item). is_bearer items tag id) follows.stay ∙ off_part next tag id keys)
      (ap (λ (items : List Item). is_bearer items tag id) (sym follows.come) ∙ part next tag id keys)
      ∙ either (is_bearer next tag id) (list_any (key_eq (exposer id)) keys))
    where
      part : (items : List Item) (tag : Tag) (id : ItemId) (keys : List BoardKey)
          → is_bearer (on keys items) tag id ≡ (is_bearer items tag id && list_any (key_eq (exposer id)) keys)
      part items tag id keys = any_by id_of (bears tag) (λ (id : ItemId). list_any (key_eq (exposer id)) keys) id items

      off_part : (items : List Item) (tag : Tag) (id : ItemId) (keys : List BoardKey)
          → is_bearer (off keys items) tag id ≡ (is_bearer items tag id && not (list_any (key_eq (exposer id)) keys))
      off_part items tag id keys = any_by id_of (bears tag) (λ (id : ItemId). not (list_any (key_eq (exposer id)) keys)) id items

      but_part : (one two : Bool) → (one && not (one && two)) ≡ (one && not two)
      but_part true two = refl
      but_part false two = refl

      either : (one two : Bool) → ((one && not two) || (one && two)) ≡ one
      either true true = refl
      either true false = refl
      either false two = refl

  module _ (over tags : List (Tag × List ItemId)) (kept : (tag : Tag) → Lists (ids_in tags tag) (is_bearer old tag))
      (borne : AreBorne over tags (is_bearer next)) where
    abbrev noted : List Tag
    noted = map (λ (entry : Tag × List ItemId). entry.0) over

    old_ids : bearers old ≡ ids_in tags
    old_ids = λ i. λ tag. lists_one (bearers old tag) (ids_in tags tag) (is_bearer old tag) (bearers_list old tag old_order) (kept tag) i

    next_ids : bearers next ≡ ids_over over tags
    next_ids = λ i. λ tag. lists_one (bearers next tag) (ids_over over tags tag) (is_bearer next tag) (bearers_list next tag follows.order) (borne tag) i

    unnoted : (tag : Tag) → list_any (tag_eq tag) (map (λ (entry : Tag × List ItemId). entry.0) over) ≡ false → bearers old tag ≡ bearers next tag
    unnoted tag none =
        (λ i. old_ids i tag) ∙ sym (ap (λ (found : Option (List ItemId)). unwrap_or found (ids_in tags tag)) (no_key over tag none))
        ∙ sym (λ i. next_ids i tag)

    pub gone_lists : Lists (map id_of (items_less (live old) (live next)))
        (leads (ids_in tags) (ids_over over tags) (touched (map (λ (entry : Tag × List ItemId). entry.0) over)))
    gone_lists =
        subst (λ (here : Tag → List ItemId). Lists (map id_of (items_less (live old) (live next))) (leads here (ids_over over tags) (touched noted))) old_ids
        (subst (λ (there : Tag → List ItemId). Lists (map id_of (items_less (live old) (live next))) (leads (bearers old) there (touched noted))) next_ids
        (less_ids old next old_order same_items (touched noted) (untouched (bearers old) (bearers next) noted unnoted)))

    pub new_lists : Lists (map id_of (items_less (live next) (live old)))
        (leads (ids_over over tags) (ids_in tags) (touched (map (λ (entry : Tag × List ItemId). entry.0) over)))
    new_lists =
        subst (λ (there : Tag → List ItemId). Lists (map id_of (items_less (live next) (live old))) (leads (ids_over over tags) there (touched noted))) old_ids
        (subst (λ (here : Tag → List ItemId). Lists (map id_of (items_less (live next) (live old))) (leads here (bearers old) (touched noted))) next_ids
        (less_ids next old follows.order turn_same (touched noted)
        (untouched (bearers next) (bearers old) noted (λ tag none. sym (unnoted tag none)))))

  pub gone_are : filter_map (λ id. option_or (item_of old id) (item_of coming id)) (map id_of (items_less (live old) (live next)))
      ≡ items_less (live old) (live next)
  gone_are = picked (λ id. option_or (item_of old id) (item_of coming id)) (items_less (live old) (live next))
      (less_facts (λ (item : Item). option_or (item_of old item.id) (item_of coming item.id) ≡ Some item) old next old_picked)

  pub new_are : filter_map (λ id. option_or (item_of coming id) (item_of old id)) (map id_of (items_less (live next) (live old)))
      ≡ items_less (live next) (live old)
  new_are = picked (λ id. option_or (item_of coming id) (item_of old id)) (items_less (live next) (live old))
      (less_facts (λ (item : Item). option_or (item_of coming item.id) (item_of old item.id) ≡ Some item) next old next_picked)
