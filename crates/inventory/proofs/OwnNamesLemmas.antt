-- Names that no two items share, so that each item that bears one is live.
use Rattle.std.proofs.Common.{◌≡◌, ◌∙◌, Bool, true, false, not, cond, ◌||◌, ◌&&◌, List, [], ◌∷◌, Option, Some, None, is_some, slice_get, refl, sym, ap}
use Rattle.std.specs.Option.{option_eq, unwrap_or}
use Rattle.std.specs.List.{All, AllByRecursion, list_any}
use Rattle.std.specs.Map.{lookup}
use Rattle.std.specs.Cmp.Lexicographic.{bytes_decides}
use Rattle.std.proofs.lemmas.List.Elements.{All-cons, All-nil}
use Rattle.cfg_json.specs.declared.item.Item.{Item}
use Rattle.cfg_json.specs.declared.item.ItemId.{ItemId}
use Rattle.inventory.specs.Bearers.{are_several, bears, ids_in, ids_over, is_bearer, is_id, name_tag, role_of, share_name, some_share, tag_eq}
use Rattle.inventory.specs.Bearers.{HaveOwnNames, Lists}
use Rattle.inventory.specs.Items.{bears_name, family_eq, family_of, holder, id_eq, is_live, AreNamedLive}
use Rattle.inventory.specs.Orders.{AreById}
use Rattle.inventory.specs.declared.family.Family.{Family}
use Rattle.inventory.specs.declared.family.Family.TheVariants as families
use Rattle.inventory.specs.declared.tag.Role.{Role}
use Rattle.inventory.specs.declared.tag.Role.TheVariants as roles
use Rattle.inventory.specs.declared.tag.Tag.{Tag}
use Rattle.inventory.proofs.BearersLemmas.{all_in, is_id_item, name_bears, IsIn}
use Rattle.inventory.proofs.BoardLemmas.{and_both}
use Rattle.inventory.proofs.HoldersLemmas.{live_is, or_none}
use Rattle.inventory.proofs.IdsLemmas.{id_itself}
use Rattle.inventory.proofs.LeadsLemmas.{first_is}
use Rattle.inventory.proofs.ListLemmas.{all_weaker}
use Rattle.inventory.proofs.TagsLemmas.{tag_same}

-- ---- ids that share no name

-- where there are no ids none share a name
none_share : (role : Role) → share_name role [] ≡ false
none_share roles.Sensor = refl
none_share roles.Zone = refl
none_share roles.Fan = refl
none_share roles.Member = refl

pub no_tags_own : (tags : List (Tag × List ItemId)) → tags ≡ [] → HaveOwnNames (ids_in tags)
no_tags_own tags none tag = ap (λ (tags : List (Tag × List ItemId)). share_name tag.role (ids_in tags tag)) none ∙ none_share tag.role

-- ids that share no name take the place of others
pub over_own : (over tags : List (Tag × List ItemId)) → some_share over ≡ false → HaveOwnNames (ids_in tags) → HaveOwnNames (ids_over over tags)
over_own [] tags none own tag = own tag
over_own (entry ∷ over) tags none own tag =
    by (share_name entry.0.role entry.1) refl none (tag_eq tag entry.0) refl (λ later. over_own over tags later own tag)
  where
    by : (shares : Bool) → share_name entry.0.role entry.1 ≡ shares → (shares || some_share over) ≡ false
        → (same : Bool) → tag_eq tag entry.0 ≡ same
        → (some_share over ≡ false → share_name tag.role (ids_over over tags tag) ≡ false)
        → share_name tag.role (unwrap_or (cond same (Some entry.1) (lookup (tag_eq tag) over)) (ids_in tags tag)) ≡ false
    by true is none same its later = absurd (cc)
    by false is none true its later = ap (λ (tag : Tag). share_name tag.role entry.1) (tag_same tag entry.0 its) ∙ is
    by false is none false its later = later none

-- where names were the items' own, and the ids that take the place of others share none
pub stay_own : (own : Bool) (over tags : List (Tag × List ItemId)) → (own ≡ true → HaveOwnNames (ids_in tags)) → (own && not (some_share over)) ≡ true
    → HaveOwnNames (ids_over over tags)
stay_own own over tags names stays = by own names (some_share over) refl stays
  where
    by : (own : Bool) → (own ≡ true → HaveOwnNames (ids_in tags)) → (shares : Bool) → some_share over ≡ shares → (own && not shares) ≡ true
        → HaveOwnNames (ids_over over tags)
    by false names shares is stays = absurd (cc)
    by true names true is stays = absurd (cc)
    by true names false is stays = over_own over tags is (names refl)

-- ---- items that are live

-- of ids that are not several, the first is all
lone_first : (id : ItemId) (ids : List ItemId) → are_several ids ≡ false → list_any (id_eq id) ids ≡ is_id id (slice_get ids 0)
lone_first id [] lone = refl
lone_first id (one ∷ []) lone = or_none (id_eq id one)
lone_first id (one ∷ two ∷ ids) lone = absurd (cc)

several_of : (family : Family) (ids : List ItemId) → share_name (role_of family) ids ≡ are_several ids
several_of families.Sensor ids = refl
several_of families.Zone ids = refl
several_of families.Fan ids = refl

family_itself : (family : Family) → family_eq family family ≡ true
family_itself families.Sensor = refl
family_itself families.Zone = refl
family_itself families.Fan = refl

-- an item bears its name
bears_own : (item : Item) (family : Family) → family_of item.part ≡ Some family → bears (name_tag family item.name) item ≡ true
bears_own item family is =
    name_bears family item.name item
    ∙ and_both _ _ (ap (λ (found : Option Family). option_eq family_eq found (Some family)) is ∙ family_itself family)
    ((bytes_decides item.name item.name).1 refl)

module _ (items : List Item) (order : AreById items) (ids : Tag → List ItemId) (lists : (tag : Tag) → Lists (ids tag) (is_bearer items tag))
    (own : HaveOwnNames ids) where
  own_live : (item : Item) → IsIn items item → bears_name item.part ≡ true → is_live items item ≡ true
  own_live item here named = by (family_of item.part) refl named
    where
      by : (family : Option Family) → family_of item.part ≡ family → is_some family ≡ true → is_live items item ≡ true
      by None is some = absurd (cc)
      by (Some family) is some =
          let tag : Tag = name_tag family item.name in
          live_is item family is items
          ∙ sym (is_id_item item.id (holder items family item.name))
          ∙ ap (is_id item.id) (sym (first_is items order family item.name (ids tag) (lists tag)))
          ∙ sym (lone_first item.id (ids tag) (sym (several_of family (ids tag)) ∙ own tag))
          ∙ (lists tag).each item.id
          ∙ here (λ (each : Item). bears tag each && id_eq item.id each.id) (and_both _ _ (bears_own item family is) (id_itself item.id))

  -- each item that bears a name is live
  pub named_live : AreNamedLive items items
  named_live = all_of _ items (all_weaker (IsIn items) _ own_live items (all_in items))
    where
      all_of : (Fact : Item → Type 0) (these : List Item) → AllByRecursion Fact these → All Fact these
      all_of Fact [] facts = All-nil Fact
      all_of Fact (item ∷ these) facts = All-cons Fact item these facts.0 (all_of Fact these facts.1)
