-- What is told of the ids that are live under tags, tag by tag.
use Rattle.std.proofs.Common.{◌≡◌, ◌∙◌, ℕ, Bool, true, false, not, cond, ◌&&◌, List, [], ◌∷◌, ◌++◌, Option, is_some, slice_get}
use Rattle.std.proofs.Common.{refl, sym, ap, ap₂, subst}
use Rattle.std.specs.List.{list_any}
use Rattle.std.specs.Prelude.{Result, Ok, Err, OnOk}
use Rattle.std.specs.List.Sorted.{IsStrictlySortedBy}
use Rattle.std.proofs.lemmas.List.Folds.{list_any-append}
use Rattle.cfg_json.specs.declared.item.ItemId.{ItemId}
use Rattle.inventory.specs.Bearers.{is_empty, is_id, leads_less, live_under, member_tag, name_tag}
use Rattle.inventory.specs.Items.{id_eq}
use Rattle.inventory.specs.Leads.{compared, compared_by, is_held, AreTold, IsLead, ListsMore}
use Rattle.inventory.specs.Orders.{id_cmp}
use Rattle.inventory.specs.declared.family.Family.{Family}
use Rattle.inventory.specs.declared.family.Family.TheVariants as families
use Rattle.inventory.specs.declared.leads.Lead.{Lead}
use Rattle.inventory.specs.declared.leads.Leads.{Leads}
use Rattle.inventory.specs.declared.tag.Role.TheVariants as roles
use Rattle.inventory.specs.declared.tag.Tag.{Tag}
use Rattle.inventory.proofs.AmongLemmas.{more_alike, more_both, no_order}
use Rattle.inventory.proofs.BearersLemmas.{first_any, some_first}
use Rattle.inventory.proofs.TagsLemmas.{or_none}

-- ---- names

-- under a name the first ids are live
first_less : (here there : Tag → List ItemId) (family : Family) (name : List ℕ) (id : ItemId)
    → leads_less here there id (name_tag family name)
    ≡ (is_id id (slice_get (here (name_tag family name)) 0) && not (is_id id (slice_get (there (name_tag family name)) 0)))
first_less here there families.Sensor name id =
    ap₂ (λ (one two : Bool). one && not two) (first_any id (here (name_tag families.Sensor name))) (first_any id (there (name_tag families.Sensor name)))
first_less here there families.Zone name id =
    ap₂ (λ (one two : Bool). one && not two) (first_any id (here (name_tag families.Zone name))) (first_any id (there (name_tag families.Zone name)))
first_less here there families.Fan name id =
    ap₂ (λ (one two : Bool). one && not two) (first_any id (here (name_tag families.Fan name))) (first_any id (there (name_tag families.Fan name)))

-- the first ids are told
pub told_first : (here there : Tag → List ItemId) (family : Family) (name : List ℕ) (lead : Lead) (told more : Leads)
    → IsLead lead (here (name_tag family name)) (there (name_tag family name))
    → ListsMore told.gone.items more.gone.items (λ each. is_id each lead.before && not (is_id each lead.after))
    → ListsMore told.new.items more.new.items (λ each. is_id each lead.after && not (is_id each lead.before))
    → AreTold here there (name_tag family name ∷ []) told more
told_first here there family name lead told more is gone new = record {
  gone = more_alike told.gone.items more.gone.items _ _ gone (λ each.
      ap₂ (λ (one two : Option ItemId). is_id each one && not (is_id each two)) is.before is.after
      ∙ sym (or_none (leads_less here there each (name_tag family name)) ∙ first_less here there family name each));
  new = more_alike told.new.items more.new.items _ _ new (λ each.
      ap₂ (λ (one two : Option ItemId). is_id each one && not (is_id each two)) is.after is.before
      ∙ sym (or_none (leads_less there here each (name_tag family name)) ∙ first_less there here family name each));
}

-- ---- more tags

-- what is told under some tags and then under others
pub told_both : (here there : Tag → List ItemId) (tags others : List Tag) (told more most : Leads) → AreTold here there tags told more
    → AreTold here there others more most → AreTold here there (tags ++ others) told most
told_both here there tags others told more most one two = record {
  gone = more_alike told.gone.items most.gone.items _ _ (more_both told.gone.items more.gone.items most.gone.items _ _ one.gone two.gone) (λ id.
      sym (list_any-append (leads_less here there id) tags others));
  new = more_alike told.new.items most.new.items _ _ (more_both told.new.items more.new.items most.new.items _ _ one.new two.new) (λ id.
      sym (list_any-append (leads_less there here id) tags others));
}

pub told_as : (here there : Tag → List ItemId) (tags others : List Tag) (told more : Leads) → tags ≡ others → AreTold here there tags told more
    → AreTold here there others told more
told_as here there tags others told more same is = subst (λ (tags : List Tag). AreTold here there tags told more) same is

-- ---- the controllers in a zone

-- the ids that are live in a zone
pub members_live : (ids : Tag → List ItemId) (zone : List ℕ) (held : Bool) → held ≡ is_held ids zone
    → cond held (ids (member_tag zone)) [] ≡ live_under ids (member_tag zone)
members_live ids zone held is =
    ap (λ (b : Bool). cond b (ids (member_tag zone)) []) is ∙ turn (is_empty (ids (name_tag families.Zone zone))) (ids (member_tag zone))
  where
    turn : (b : Bool) (ids : List ItemId) → cond (not b) ids [] ≡ cond b [] ids
    turn true ids = refl
    turn false ids = refl

pub if_order : (b : Bool) (ids : List ItemId) → IsStrictlySortedBy id_cmp ids → IsStrictlySortedBy id_cmp (cond b ids [])
if_order true ids order = order
if_order false ids order = no_order

pub told_members : (here there : Tag → List ItemId) (zone : List ℕ) (one two : List ItemId) (told more : Leads)
    → one ≡ live_under here (member_tag zone) → two ≡ live_under there (member_tag zone)
    → ListsMore told.gone.items more.gone.items (λ each. list_any (id_eq each) one && not (list_any (id_eq each) two))
    → ListsMore told.new.items more.new.items (λ each. list_any (id_eq each) two && not (list_any (id_eq each) one))
    → AreTold here there (member_tag zone ∷ []) told more
told_members here there zone one two told more one_is two_is gone new = record {
  gone = more_alike told.gone.items more.gone.items _ _ gone (λ each.
      ap₂ (λ (one two : List ItemId). list_any (id_eq each) one && not (list_any (id_eq each) two)) one_is two_is
      ∙ sym (or_none (leads_less here there each (member_tag zone))));
  new = more_alike told.new.items more.new.items _ _ new (λ each.
      ap₂ (λ (one two : List ItemId). list_any (id_eq each) two && not (list_any (id_eq each) one)) one_is two_is
      ∙ sym (or_none (leads_less there here each (member_tag zone))));
}

-- a name of a zone is held where there is a first id
pub held_first : (ids : Tag → List ItemId) (zone : List ℕ) (first : Option ItemId) → first ≡ slice_get (ids (name_tag families.Zone zone)) 0
    → is_some first ≡ is_held ids zone
held_first ids zone first is = ap is_some is ∙ some_first (ids (name_tag families.Zone zone))

-- what is compared with the name of a zone
pub zone_stays : (here there : Tag → List ItemId) (zone : List ℕ) (stays : Bool) → stays ≡ (is_held here zone && is_held there zone)
    → compared here there (name_tag families.Zone zone) ≡ compared_by roles.Zone zone stays
zone_stays here there zone stays is = ap (compared_by roles.Zone zone) (sym is)

pub on_ok : {X E P Q : Type 0} (result : Result X E) → (P → Q) → OnOk result P → OnOk result Q
on_ok (Ok value) gives is = gives is
on_ok (Err error) gives is = is

pub on_both : {X E P Q R : Type 0} (result : Result X E) → (P → Q → R) → OnOk result P → OnOk result Q → OnOk result R
on_both (Ok value) gives one two = gives one two
on_both (Err error) gives one two = one

-- the same, for a tag under which nothing else is compared
pub told_name : (here there : Tag → List ItemId) (family : Family) (name : List ℕ) (tag : Tag) (lead : Lead) (told more : Leads)
    → name_tag family name ≡ tag → compared here there (name_tag family name) ≡ name_tag family name ∷ [] → IsLead lead (here tag) (there tag)
    → ListsMore told.gone.items more.gone.items (λ each. is_id each lead.before && not (is_id each lead.after))
    → ListsMore told.new.items more.new.items (λ each. is_id each lead.after && not (is_id each lead.before))
    → AreTold here there (compared here there tag) told more
told_name here there family name tag lead told more same alone is gone new =
    subst (λ (tag : Tag). AreTold here there (compared here there tag) told more) same
    (told_as here there (name_tag family name ∷ []) (compared here there (name_tag family name)) told more (sym alone)
    (told_first here there family name lead told more (subst (λ (tag : Tag). IsLead lead (here tag) (there tag)) (sym same) is) gone new))
