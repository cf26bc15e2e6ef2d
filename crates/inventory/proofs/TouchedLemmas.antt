-- The tags under which something may change.
use Rattle.std.proofs.Common.{◌≡◌, ◌∙◌, ℕ, Bool, true, false, not, cond, ◌||◌, ◌&&◌, List, [], ◌∷◌, refl, sym, ap, ap₂, true≢false}
use Rattle.std.specs.List.{flat_map, list_any}
use Rattle.std.proofs.lemmas.List.Folds.{list_any-append}
use Rattle.cfg_json.specs.declared.item.ItemId.{ItemId}
use Rattle.inventory.specs.Bearers.{leads, leads_less, live_by, live_under, member_tag, name_tag, tag_eq, touched, touched_by}
use Rattle.inventory.specs.Items.{id_eq}
use Rattle.inventory.specs.Leads.{compared_by, is_held}
use Rattle.inventory.specs.declared.family.Family.TheVariants as families
use Rattle.inventory.specs.declared.tag.Role.{Role}
use Rattle.inventory.specs.declared.tag.Role.TheVariants as roles
use Rattle.inventory.specs.declared.tag.Tag.{Tag}
use Rattle.inventory.proofs.BearersLemmas.{all_in, any_some}
use Rattle.inventory.proofs.TagsLemmas.{or_none, tag_itself, tag_same}

pub both_ways : (one other : Bool) → (one ≡ true → other ≡ true) → (other ≡ true → one ≡ true) → one ≡ other
both_ways true true there back = refl
both_ways true false there back = sym (there refl)
both_ways false true there back = back refl
both_ways false false there back = refl

or_right : (one other : Bool) → other ≡ true → (one || other) ≡ true
or_right true other is = refl
or_right false other is = is

or_left : (one other : Bool) → one ≡ true → (one || other) ≡ true
or_left one other is = ap (λ (b : Bool). b || other) is

-- a test that a tag passes is passed where the tag is
pub any_tag : (test : Tag → Bool) (tag : Tag) (tags : List Tag) → list_any (tag_eq tag) tags ≡ true → test tag ≡ true → list_any test tags ≡ true
any_tag test tag [] has is = absurd (cc)
any_tag test tag (first ∷ tags) has is = by (tag_eq tag first) refl has (any_tag test tag tags)
  where
    by : (same : Bool) → tag_eq tag first ≡ same → (same || list_any (tag_eq tag) tags) ≡ true
        → (list_any (tag_eq tag) tags ≡ true → test tag ≡ true → list_any test tags ≡ true) → list_any test (first ∷ tags) ≡ true
    by true same has later = ap (λ (b : Bool). b || list_any test tags) (ap test (sym (tag_same tag first same)) ∙ is)
    by false same has later = or_right (test first) (list_any test tags) (later has is)

any_flat : {X Y : Type 0} (test : Y → Bool) (image : X → List Y) (xs : List X)
    → list_any test (flat_map image xs) ≡ list_any (λ (x : X). list_any test (image x)) xs
any_flat test image [] = refl
any_flat test image (x ∷ xs) =
    list_any-append test (image x) (flat_map image xs) ∙ ap (λ (b : Bool). list_any test (image x) || b) (any_flat test image xs)

any_weaker : {X : Type 0} (test other : X → Bool) → ((x : X) → test x ≡ true → other x ≡ true) → (xs : List X) → list_any test xs ≡ true
    → list_any other xs ≡ true
any_weaker test other gives [] has = absurd (cc)
any_weaker {X} test other gives (first ∷ xs) has = by (test first) refl has (any_weaker test other gives xs)
  where
    by : (is : Bool) → test first ≡ is → (is || list_any test xs) ≡ true → (list_any test xs ≡ true → list_any other xs ≡ true)
        → list_any other (first ∷ xs) ≡ true
    by true is has later = or_left (other first) (list_any other xs) (gives first is)
    by false is has later = or_right (other first) (list_any other xs) (later has)

not_true : (b : Bool) → (b ≡ true → ⊥) → b ≡ false
not_true true never = absurd (never refl)
not_true false never = refl

-- ---- what is not touched

-- a tag is touched by itself, and that of the controllers in a zone by the name of the zone
touched_too : (tags : List Tag) (key tag : Tag) → list_any (tag_eq tag) (touched_by key.role key.name) ≡ true → list_any (tag_eq tag) (touched tags) ≡ false
    → list_any (tag_eq key) tags ≡ false
touched_too tags key tag has none =
    not_true _ (λ there. true≢false (sym (any_flat (tag_eq tag) (λ (key : Tag). touched_by key.role key.name) tags
    ∙ any_tag (λ (key : Tag). list_any (tag_eq tag) (touched_by key.role key.name)) key tags there has) ∙ none))

own_touch : (role : Role) (name : List ℕ) → list_any (tag_eq (record { role = role; name = name })) (touched_by role name) ≡ true
own_touch roles.Sensor name = or_left _ _ (tag_itself (record { role = roles.Sensor; name = name }))
own_touch roles.Zone name = or_left _ _ (tag_itself (record { role = roles.Zone; name = name }))
own_touch roles.Fan name = or_left _ _ (tag_itself (record { role = roles.Fan; name = name }))
own_touch roles.Member name = or_left _ _ (tag_itself (record { role = roles.Member; name = name }))

zone_touch : (name : List ℕ) → list_any (tag_eq (member_tag name)) (touched_by roles.Zone name) ≡ true
zone_touch name = or_left _ false (tag_itself (member_tag name))

-- under a tag that is not touched the same ids are live
pub untouched : (here there : Tag → List ItemId) (tags : List Tag) → ((tag : Tag) → list_any (tag_eq tag) tags ≡ false → here tag ≡ there tag)
    → (tag : Tag) → list_any (tag_eq tag) (touched tags) ≡ false → live_under here tag ≡ live_under there tag
untouched here there tags rest tag none = by tag.role refl
  where
    same : here tag ≡ there tag
    same = rest tag (touched_too tags tag tag (own_touch tag.role tag.name) none)

    by : (role : Role) → tag.role ≡ role
        → live_by role (here tag) (here (name_tag families.Zone tag.name)) ≡ live_by role (there tag) (there (name_tag families.Zone tag.name))
    by roles.Sensor is = ap (λ (ids : List ItemId). live_by roles.Sensor ids []) same
    by roles.Zone is = ap (λ (ids : List ItemId). live_by roles.Zone ids []) same
    by roles.Fan is = ap (λ (ids : List ItemId). live_by roles.Fan ids []) same
    by roles.Member is =
        let its : list_any (tag_eq tag) (touched_by roles.Zone tag.name) ≡ true =
        ap (λ (role : Role). list_any (tag_eq (record { role = role; name = tag.name })) (touched_by roles.Zone tag.name)) is ∙ zone_touch tag.name in
        ap₂ (live_by roles.Member) same
        (rest (name_tag families.Zone tag.name) (touched_too tags (name_tag families.Zone tag.name) tag its none))

-- ---- what is compared

-- a zone that stays held need not be looked at: where its controllers change, their tag is among the others
module _ (here there : Tag → List ItemId) (tags : List Tag) (rest : (tag : Tag) → list_any (tag_eq tag) tags ≡ false → here tag ≡ there tag)
    (stays : Tag → Bool) (holds : (tag : Tag) → stays tag ≡ true → (is_held here tag.name ≡ true) × (is_held there tag.name ≡ true)) where
  abbrev compares : Tag → List Tag
  compares tag = compared_by tag.role tag.name (stays tag)

  abbrev tells : ItemId → Tag → Bool
  tells id tag = list_any (leads_less here there id) (compares tag)

  abbrev touches_it : ItemId → Tag → Bool
  touches_it id tag = list_any (leads_less here there id) (touched_by tag.role tag.name)

  fewer : (id : ItemId) (role : Role) (name : List ℕ) (b : Bool) → list_any (leads_less here there id) (compared_by role name b) ≡ true
      → list_any (leads_less here there id) (touched_by role name) ≡ true
  fewer id roles.Sensor name b is = is
  fewer id roles.Fan name b is = is
  fewer id roles.Member name b is = is
  fewer id roles.Zone name false is = is
  fewer id roles.Zone name true is =
      or_left _ _ (sym (or_none (leads_less here there id (name_tag families.Zone name))) ∙ is)

  -- where the zone stays held, its controllers lead here and not there only where their tag is among the others
  member_noted : (id : ItemId) (name : List ℕ) → is_held here name ≡ true → is_held there name ≡ true
      → leads_less here there id (member_tag name) ≡ true → list_any (tag_eq (member_tag name)) tags ≡ true
  member_noted id name held held_there is = by (list_any (tag_eq (member_tag name)) tags) refl
    where
      empty : (b : Bool) → not b ≡ true → b ≡ false
      empty true is = absurd (cc)
      empty false is = refl

      clash : (b : Bool) → (b && not b) ≡ true → ⊥
      clash true is = absurd (cc)
      clash false is = absurd (cc)

      by : (has : Bool) → list_any (tag_eq (member_tag name)) tags ≡ has → has ≡ true
      by true has = refl
      by false has =
          let same : live_under there (member_tag name) ≡ live_under here (member_tag name) =
          ap₂ (λ (b : Bool) (ids : List ItemId). cond b [] ids)
          (empty _ held_there ∙ sym (empty _ held)) (sym (rest (member_tag name) has)) in
          absurd (clash (list_any (id_eq id) (live_under here (member_tag name)))
          (ap (λ (ids : List ItemId). list_any (id_eq id) (live_under here (member_tag name)) && not (list_any (id_eq id) ids)) (sym same) ∙ is))

  more : (id : ItemId) (tag : Tag) → touches_it id tag ≡ true → ((test : Tag → Bool) → test tag ≡ true → list_any test tags ≡ true)
      → list_any (tells id) tags ≡ true
  more id tag is here_is = by tag.role refl (stays tag) refl is
    where
      plain : (role : Role) → tag.role ≡ role → (b : Bool) → stays tag ≡ b → compared_by role tag.name b ≡ touched_by role tag.name
          → list_any (leads_less here there id) (touched_by role tag.name) ≡ true → list_any (tells id) tags ≡ true
      plain role is b stays_is same has =
          here_is (tells id) (ap₂ (λ (role : Role) (b : Bool). list_any (leads_less here there id) (compared_by role tag.name b)) is stays_is
          ∙ ap (list_any (leads_less here there id)) same ∙ has)

      either : (one two : Bool) → (one || (two || false)) ≡ true → one ≡ false → two ≡ true
      either true two is none = absurd (cc)
      either false two is none = sym (or_none two) ∙ is

      by : (role : Role) → tag.role ≡ role → (b : Bool) → stays tag ≡ b → list_any (leads_less here there id) (touched_by role tag.name) ≡ true
          → list_any (tells id) tags ≡ true
      by roles.Sensor role b stays_is has = plain roles.Sensor role b stays_is refl has
      by roles.Fan role b stays_is has = plain roles.Fan role b stays_is refl has
      by roles.Member role b stays_is has = plain roles.Member role b stays_is refl has
      by roles.Zone role false stays_is has = plain roles.Zone role false stays_is refl has
      by roles.Zone role true stays_is has = first (leads_less here there id (name_tag families.Zone tag.name)) refl
        where
          first : (b : Bool) → leads_less here there id (name_tag families.Zone tag.name) ≡ b → list_any (tells id) tags ≡ true
          first true leads_it =
              here_is (tells id) (ap₂ (λ (role : Role) (b : Bool). list_any (leads_less here there id) (compared_by role tag.name b)) role stays_is
              ∙ or_left _ _ leads_it)
          first false not_it =
              let its : leads_less here there id (member_tag tag.name) ≡ true = either _ _ has not_it in
              let held = holds tag stays_is in
              any_tag (tells id) (member_tag tag.name) tags (member_noted id tag.name held.0 held.1 its) (or_left _ _ its)

  pub compared_touched : (id : ItemId) → leads here there (flat_map compares tags) id ≡ leads here there (touched tags) id
  compared_touched id =
      any_flat (leads_less here there id) compares tags
      ∙ both_ways _ _ (any_weaker (tells id) (touches_it id) (λ tag is. fewer id tag.role tag.name (stays tag) is) tags)
      (λ has. let found = any_some (touches_it id) (λ (tag : Tag). (test : Tag → Bool) → test tag ≡ true → list_any test tags ≡ true) tags (all_in tags) has in
      more id found.0 found.1 found.2)
      ∙ sym (any_flat (leads_less here there id) (λ (tag : Tag). touched_by tag.role tag.name) tags)
