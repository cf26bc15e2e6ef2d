-- Items that are noted under tags, one after another.
use Rattle.std.proofs.Common.{◌≡◌, ◌∙◌, Bool, true, false, not, cond, ◌||◌, ◌&&◌, List, [], ◌∷◌, ◌++◌, map, slice_get}
use Rattle.std.proofs.Common.{Option, Some, None, is_some, refl, sym, ap, ap₂, subst}
use Rattle.std.specs.Option.{option_eq, unwrap_or}
use Rattle.std.specs.Map.{lookup}
use Rattle.std.proofs.lemmas.List.Folds.{list_any-append}
use Rattle.indexmap.specs.IndexMap.{insert_entry}
use Rattle.cfg_json.specs.declared.item.Item.{Item}
use Rattle.cfg_json.specs.declared.item.ItemId.{ItemId}
use Rattle.inventory.specs.Bearers.{bears, ids_in, ids_over, is_bearer, noted_by, tag_eq, tag_of, AreBorne, Lists}
use Rattle.inventory.specs.Follows.{is_on, key_eq, on}
use Rattle.inventory.specs.Orders.{exposer}
use Rattle.inventory.specs.Items.{id_eq}
use Rattle.inventory.specs.Stocks.{AreNoted}
use Rattle.inventory.specs.declared.board.BoardKey.{BoardKey}
use Rattle.inventory.specs.declared.tag.Tag.{Tag}
use Rattle.inventory.specs.declared.tags.Notes.{Notes}
use Rattle.inventory.proofs.IdListsLemmas.{lists_alike}
use Rattle.inventory.proofs.TagsLemmas.{and_not_idle, found_as, found_then, or_none, tag_same, tag_swap, tag_test, tag_test_is, tags_kept, tags_more}

-- ---- an item

pub bears_is : (item : Item) (tag : Tag) → tag_of item ≡ Some tag → (each : Tag) → bears each item ≡ tag_eq each tag
bears_is item tag is each = ap (λ (found : Option Tag). option_eq tag_eq found (Some each)) is ∙ tag_swap tag each

pub bears_none : (item : Item) → tag_of item ≡ None → (each : Tag) → bears each item ≡ false
bears_none item none each = ap (λ (found : Option Tag). option_eq tag_eq found (Some each)) none

pub borne_alike : (over tags : List (Tag × List ItemId)) (test other : Tag → ItemId → Bool) → AreBorne over tags test
    → ((tag : Tag) (id : ItemId) → test tag id ≡ other tag id) → AreBorne over tags other
borne_alike over tags test other borne alike tag = lists_alike (ids_over over tags tag) (test tag) (other tag) (borne tag) (alike tag)

pub noted_alike : (notes : Notes) (tags : List (Tag × List ItemId)) (test other : Tag → ItemId → Bool) → AreNoted notes tags test
    → ((tag : Tag) (id : ItemId) → test tag id ≡ other tag id) → AreNoted notes tags other
noted_alike notes tags test other noted alike = record {
  borne = borne_alike notes.over.entries tags test other noted.borne alike;
  firsts = noted.firsts;
}

-- nothing is noted yet
pub noted_start : (notes : Notes) (tags : List (Tag × List ItemId)) (test : Tag → ItemId → Bool) → notes.over.entries ≡ [] → notes.firsts.items ≡ []
    → AreBorne [] tags test → AreNoted notes tags test
noted_start notes tags test no_tags no_firsts borne = record {
  borne = subst (λ (over : List (Tag × List ItemId)). AreBorne over tags test) (sym no_tags) borne;
  firsts = no_firsts ∙ sym (ap (map (λ (entry : Tag × List ItemId). slice_get (ids_in tags entry.0) 0)) no_tags);
}

idle : (comes is : Bool) → noted_by comes is false ≡ is
idle true is = or_none is
idle false is = and_not_idle is

-- one item goes or comes
module _ (comes : Bool) (notes : Notes) (tags : List (Tag × List ItemId)) (item : Item) (test : Tag → ItemId → Bool) (noted : AreNoted notes tags test) where
  abbrev over : List (Tag × List ItemId)
  over = notes.over.entries

  abbrev next : Tag → ItemId → Bool
  next tag id = noted_by comes (test tag id) (is_bearer (item ∷ []) tag id)

  bearer_is : (tag : Tag) (id : ItemId) (is : Bool) → bears tag item ≡ is → is_bearer (item ∷ []) tag id ≡ (is && id_eq id item.id)
  bearer_is tag id is bears_it = or_none (bears tag item && id_eq id item.id) ∙ ap (λ (b : Bool). b && id_eq id item.id) bears_it

  pub step_none : tag_of item ≡ None → AreNoted notes tags next
  step_none none = noted_alike notes tags test next noted (λ tag id.
      sym (ap (noted_by comes (test tag id)) (bearer_is tag id false (bears_none item none tag)) ∙ idle comes (test tag id)))

  module _ (tag : Tag) (ids more : List ItemId) (new : Notes) (is : tag_of item ≡ Some tag)
      (changes : (test : ItemId → Bool) → Lists ids test → Lists more (λ id. noted_by comes (test id) (id_eq id item.id)))
      (entries : new.over.entries ≡ insert_entry tag_test over tag more) where
    entries_are : new.over.entries ≡ insert_entry tag_eq over tag more
    entries_are = entries ∙ ap (λ (eq : Tag → Tag → Bool). insert_entry eq over tag more) tag_test_is

    new_is : (each : Tag) → lookup (tag_eq each) new.over.entries ≡ cond (tag_eq each tag) (Some more) (lookup (tag_eq each) over)
    new_is each = ap (lookup (tag_eq each)) entries_are ∙ found_then over tag more each

    step_borne : ids ≡ ids_over over tags tag → AreBorne new.over.entries tags next
    step_borne ids_are each = by (tag_eq each tag) refl
      where
        looked : (same : Bool) → tag_eq each tag ≡ same → lookup (tag_eq each) new.over.entries ≡ cond same (Some more) (lookup (tag_eq each) over)
        looked same e = new_is each ∙ ap (λ (b : Bool). cond b (Some more) (lookup (tag_eq each) over)) e

        by : (same : Bool) → tag_eq each tag ≡ same → Lists (ids_over new.over.entries tags each) (next each)
        by true same =
            let lists : Lists more (λ id. noted_by comes (test tag id) (id_eq id item.id)) =
            changes (test tag) (subst (λ (ids : List ItemId). Lists ids (test tag)) (sym ids_are) (noted.borne tag)) in
            subst (λ (ids : List ItemId). Lists ids (next each))
            (sym (ap (λ (found : Option (List ItemId)). unwrap_or found (ids_in tags each)) (looked true same)))
            (lists_alike more (λ id. noted_by comes (test tag id) (id_eq id item.id)) (next each) lists (λ id.
            ap (λ (tag : Tag). noted_by comes (test tag id) (id_eq id item.id)) (sym (tag_same each tag same))
            ∙ sym (ap (noted_by comes (test each id)) (bearer_is each id true (bears_is item tag is each ∙ same)))))
        by false differs =
            subst (λ (ids : List ItemId). Lists ids (next each))
            (sym (ap (λ (found : Option (List ItemId)). unwrap_or found (ids_in tags each)) (looked false differs)))
            (lists_alike (ids_over over tags each) (test each) (next each) (noted.borne each) (λ id.
            sym (ap (noted_by comes (test each id)) (bearer_is each id false (bears_is item tag is each ∙ differs)) ∙ idle comes (test each id))))

    -- where the tag is noted
    pub step_there : Some ids ≡ lookup (tag_test tag) over → new.firsts.items ≡ notes.firsts.items → AreNoted new tags next
    step_there there firsts =
        let found : Some ids ≡ lookup (tag_eq tag) over = there ∙ found_as over tag in
        record {
          borne = step_borne (ap (λ (found : Option (List ItemId)). unwrap_or found (ids_in tags tag)) found);
          firsts = firsts ∙ noted.firsts
              ∙ sym (ap (map (λ (entry : Tag × List ItemId). slice_get (ids_in tags entry.0) 0)) entries_are
              ∙ tags_kept (λ each. slice_get (ids_in tags each) 0) over tag more (ap is_some (sym found)));
        }

    -- where it is not
    pub step_new : lookup (tag_test tag) over ≡ None → ids ≡ ids_in tags tag → new.firsts.items ≡ notes.firsts.items ++ slice_get ids 0 ∷ []
        → AreNoted new tags next
    step_new none ids_are firsts =
        let free : lookup (tag_eq tag) over ≡ None = sym (found_as over tag) ∙ none in
        record {
          borne = step_borne (ids_are ∙ sym (ap (λ (found : Option (List ItemId)). unwrap_or found (ids_in tags tag)) free));
          firsts = firsts
              ∙ ap₂ (λ (front : List (Option ItemId)) (ids : List ItemId). front ++ slice_get ids 0 ∷ []) noted.firsts ids_are
              ∙ sym (ap (map (λ (entry : Tag × List ItemId). slice_get (ids_in tags entry.0) 0)) entries_are
              ∙ tags_more (λ each. slice_get (ids_in tags each) 0) over tag more free);
        }

-- ---- more items

pub bearer_more : (front back : List Item) (tag : Tag) (id : ItemId) → is_bearer (front ++ back) tag id ≡ (is_bearer front tag id || is_bearer back tag id)
bearer_more front back tag id = list_any-append (λ (item : Item). bears tag item && id_eq id item.id) front back

twice : (comes one two three : Bool) → noted_by comes (noted_by comes one two) three ≡ noted_by comes one (two || three)
twice true true two three = refl
twice true false two three = refl
twice false false two three = refl
twice false true true three = refl
twice false true false three = refl

-- the items that were noted so far, and some more
pub noted_more : (comes : Bool) (notes : Notes) (tags : List (Tag × List ItemId)) (test : Tag → ItemId → Bool) (front back all : List Item)
    → front ++ back ≡ all
    → AreNoted notes tags (λ tag id. noted_by comes (noted_by comes (test tag id) (is_bearer front tag id)) (is_bearer back tag id))
    → AreNoted notes tags (λ tag id. noted_by comes (test tag id) (is_bearer all tag id))
noted_more comes notes tags test front back all is noted =
    noted_alike notes tags _ _ noted (λ tag id. twice comes (test tag id) (is_bearer front tag id) (is_bearer back tag id)
    ∙ ap (noted_by comes (test tag id)) (sym (bearer_more front back tag id) ∙ ap (λ (items : List Item). is_bearer items tag id) is))

pub noted_none : (comes : Bool) (notes : Notes) (tags : List (Tag × List ItemId)) (test : Tag → ItemId → Bool) → AreNoted notes tags test
    → AreNoted notes tags (λ tag id. noted_by comes (test tag id) (is_bearer [] tag id))
noted_none comes notes tags test noted = noted_alike notes tags _ _ noted (λ tag id. sym (idle comes (test tag id)))

-- the items on some boards, and on one more
any_cond : (item : Item) (items : List Item) (tag : Tag) (id : ItemId) (is : Bool)
    → is_bearer (cond is (item ∷ items) items) tag id ≡ ((is && (bears tag item && id_eq id item.id)) || is_bearer items tag id)
any_cond item items tag id true = refl
any_cond item items tag id false = refl

or_turn : (is too here one two both : Bool) → (one || two) ≡ both → (((is && here) || one) || ((too && here) || two)) ≡ (((is || too) && here) || both)
or_turn true true true one two both same = refl
or_turn true false true one two both same = refl
or_turn false true true one two both same = over one
  where
    over : (b : Bool) → (b || true) ≡ true
    over true = refl
    over false = refl
or_turn false false true one two both same = same
or_turn true true false one two both same = same
or_turn true false false one two both same = same
or_turn false true false one two both same = same
or_turn false false false one two both same = same

pub on_more : (keys : List BoardKey) (key : BoardKey) (items : List Item) (tag : Tag) (id : ItemId)
    → (is_bearer (on keys items) tag id || is_bearer (on (key ∷ []) items) tag id) ≡ is_bearer (on (keys ++ key ∷ []) items) tag id
on_more keys key [] tag id = refl
on_more keys key (item ∷ items) tag id =
    ap₂ (λ (one two : Bool). one || two) (any_cond item (on keys items) tag id (is_on keys item))
    (any_cond item (on (key ∷ []) items) tag id (is_on (key ∷ []) item))
    ∙ or_turn (is_on keys item) (is_on (key ∷ []) item) (bears tag item && id_eq id item.id) (is_bearer (on keys items) tag id)
    (is_bearer (on (key ∷ []) items) tag id) (is_bearer (on (keys ++ key ∷ []) items) tag id) (on_more keys key items tag id)
    ∙ sym (any_cond item (on (keys ++ key ∷ []) items) tag id (is_on (keys ++ key ∷ []) item)
    ∙ ap (λ (b : Bool). (b && (bears tag item && id_eq id item.id)) || is_bearer (on (keys ++ key ∷ []) items) tag id)
    (list_any-append (key_eq (exposer item.id)) keys (key ∷ [])))

pub gone_on : (notes : Notes) (tags : List (Tag × List ItemId)) (test : Tag → ItemId → Bool) (keys all : List BoardKey) (key : BoardKey) (items : List Item)
    → keys ++ key ∷ [] ≡ all
    → AreNoted notes tags (λ tag id. (test tag id && not (is_bearer (on keys items) tag id)) && not (is_bearer (on (key ∷ []) items) tag id))
    → AreNoted notes tags (λ tag id. test tag id && not (is_bearer (on all items) tag id))
gone_on notes tags test keys all key items is noted =
    noted_alike notes tags _ _ noted (λ tag id. twice false (test tag id) (is_bearer (on keys items) tag id) (is_bearer (on (key ∷ []) items) tag id)
    ∙ ap (λ (b : Bool). test tag id && not b) (on_more keys key items tag id ∙ ap (λ (keys : List BoardKey). is_bearer (on keys items) tag id) is))

on_none : (items : List Item) → on [] items ≡ []
on_none [] = refl
on_none (item ∷ items) = on_none items

pub gone_on_none : (notes : Notes) (tags : List (Tag × List ItemId)) (test : Tag → ItemId → Bool) (items : List Item) → AreNoted notes tags test
    → AreNoted notes tags (λ tag id. test tag id && not (is_bearer (on [] items) tag id))
gone_on_none notes tags test items noted =
    noted_alike notes tags _ _ noted (λ tag id. sym (ap (λ (items : List Item). test tag id && not (is_bearer items tag id)) (on_none items)
    ∙ and_not_idle (test tag id)))
