-- The items that are noted under a tag, and those that are live there.
use Rattle.std.proofs.Common.{◌≡◌, ◌∙◌, ℕ, Bool, true, false, not, cond, ◌||◌, ◌&&◌, List, [], ◌∷◌, map, filter, take}
use Rattle.std.proofs.Common.{Option, Some, None, is_some, option_map, slice_get, refl, sym, ap, ap₂, true≢false}
use Rattle.std.specs.Prelude.{bytes_eq}
use Rattle.std.specs.Option.{option_eq, unwrap_or}
use Rattle.std.specs.List.{AllByRecursion, list_any}
use Rattle.cfg_json.specs.declared.item.Item.{Item}
use Rattle.cfg_json.specs.declared.item.ItemId.{ItemId}
use Rattle.cfg_json.specs.declared.item.ItemPart.{ItemPart}
use Rattle.cfg_json.specs.declared.item.ItemPart.TheVariants as parts
use Rattle.inventory.specs.Bearers.{bearers, bears, is_bearer, is_empty, is_id, live_by, live_under, member_tag, name_tag, role_of, tag_by, tag_eq, tag_of}
use Rattle.inventory.specs.Bearers.{Lists}
use Rattle.inventory.specs.Items.{family_eq, family_of, has_name, holder, id_eq, is_item, is_live, live, zone_of}
use Rattle.inventory.specs.Orders.{id_cmp, AreById}
use Rattle.inventory.specs.declared.family.Family.{Family}
use Rattle.inventory.specs.declared.family.Family.TheVariants as families
use Rattle.inventory.specs.declared.tag.Role.{Role}
use Rattle.inventory.specs.declared.tag.Role.TheVariants as roles
use Rattle.inventory.specs.declared.tag.Tag.{Tag}
use Rattle.inventory.proofs.BoardLemmas.{and_both, and_first, and_second}
use Rattle.inventory.proofs.HoldersLemmas.{live_is, or_none}
use Rattle.inventory.proofs.IdListsLemmas.{id_swap}
use Rattle.inventory.proofs.IdsLemmas.{id_itself, id_same}
use Rattle.inventory.proofs.TagsLemmas.{tag_itself, tag_same}
use Rattle.inventory.proofs.ListLemmas.{all_weaker, ascending_filter}

abbrev pub id_at : Item → ItemId
id_at item = item.id

-- ---- bearers

-- the items of a family that have a name bear it
pub name_bears : (family : Family) (name : List ℕ) (item : Item) → bears (name_tag family name) item ≡ has_name family name item
name_bears family name item = by item.part refl family
  where
    by : (part : ItemPart) → item.part ≡ part → (family : Family) → bears (name_tag family name) item ≡ has_name family name item
    by part is family =
        ap (λ (part : ItemPart). option_eq tag_eq (tag_by item.name part) (Some (name_tag family name))) is ∙ same part family
        ∙ sym (ap (λ (part : ItemPart). option_eq family_eq (family_of part) (Some family) && bytes_eq item.name name) is)
      where
        same : (part : ItemPart) (family : Family) → option_eq tag_eq (tag_by item.name part) (Some (name_tag family name))
            ≡ (option_eq family_eq (family_of part) (Some family) && bytes_eq item.name name)
        same (parts.Sensor sensor) families.Sensor = refl
        same (parts.Sensor sensor) families.Zone = refl
        same (parts.Sensor sensor) families.Fan = refl
        same parts.Fan families.Sensor = refl
        same parts.Fan families.Zone = refl
        same parts.Fan families.Fan = refl
        same (parts.Zone setting) families.Sensor = refl
        same (parts.Zone setting) families.Zone = refl
        same (parts.Zone setting) families.Fan = refl
        same (parts.Control control) families.Sensor = refl
        same (parts.Control control) families.Zone = refl
        same (parts.Control control) families.Fan = refl
        same (parts.Mux mux) families.Sensor = refl
        same (parts.Mux mux) families.Zone = refl
        same (parts.Mux mux) families.Fan = refl
        same parts.Passive families.Sensor = refl
        same parts.Passive families.Zone = refl
        same parts.Passive families.Fan = refl

-- the first bearer of a name is its holder
pub first_bearer : (items : List Item) (family : Family) (name : List ℕ)
    → slice_get (bearers items (name_tag family name)) 0 ≡ option_map id_at (holder items family name)
first_bearer items family name = (λ i. slice_get (map id_at (filter (λ (item : Item). name_bears family name item i) items)) 0) ∙ firsts items
  where
    firsts : (items : List Item) → slice_get (map id_at (filter (has_name family name) items)) 0 ≡ option_map id_at (holder items family name)
    firsts [] = refl
    firsts (item ∷ items) = by (has_name family name item) (firsts items)
      where
        by : (is : Bool) → slice_get (map id_at (filter (has_name family name) items)) 0 ≡ option_map id_at (holder items family name)
            → slice_get (map id_at (cond is (item ∷ filter (has_name family name) items) (filter (has_name family name) items))) 0
            ≡ option_map id_at (cond is (Some item) (holder items family name))
        by true later = refl
        by false later = later

-- an id is that of an item where the item has it
pub is_id_item : (id : ItemId) (item : Option Item) → is_id id (option_map id_at item) ≡ is_item id item
is_id_item id None = refl
is_id_item id (Some item) = id_swap id item.id

-- whether an id is first for a name
pub leads_is : (items : List Item) (family : Family) (name : List ℕ) (id : ItemId)
    → is_id id (slice_get (bearers items (name_tag family name)) 0) ≡ is_item id (holder items family name)
leads_is items family name id = ap (is_id id) (first_bearer items family name) ∙ is_id_item id (holder items family name)

pub first_any : (id : ItemId) (ids : List ItemId) → list_any (id_eq id) (take 1 ids) ≡ is_id id (slice_get ids 0)
first_any id [] = refl
first_any id (first ∷ ids) = or_none (id_eq id first)

-- a name is held where it is borne
pub some_first : (ids : List ItemId) → is_some (slice_get ids 0) ≡ not (is_empty ids)
some_first [] = refl
some_first (id ∷ ids) = refl

held_if : (items : List Item) (zone : List ℕ) → is_some (holder items families.Zone zone) ≡ not (is_empty (bearers items (name_tag families.Zone zone)))
held_if items zone =
    either (holder items families.Zone zone) ∙ ap is_some (sym (first_bearer items families.Zone zone))
    ∙ some_first (bearers items (name_tag families.Zone zone))
  where
    either : (item : Option Item) → is_some item ≡ is_some (option_map id_at item)
    either None = refl
    either (Some item) = refl

pub any_filter : {X : Type 0} (test keep : X → Bool) (xs : List X) → list_any test (filter keep xs) ≡ list_any (λ (x : X). keep x && test x) xs
any_filter test keep [] = refl
any_filter {X} test keep (first ∷ xs) = by (keep first) (any_filter test keep xs)
  where
    by : (kept : Bool) → list_any test (filter keep xs) ≡ list_any (λ (x : X). keep x && test x) xs
        → list_any test (cond kept (first ∷ filter keep xs) (filter keep xs)) ≡ ((kept && test first) || list_any (λ (x : X). keep x && test x) xs)
    by true later = ap (λ (b : Bool). test first || b) later
    by false later = later

pub any_map : {X Y : Type 0} (test : Y → Bool) (image : X → Y) (xs : List X) → list_any test (map image xs) ≡ list_any (λ (x : X). test (image x)) xs
any_map test image [] = refl
any_map test image (first ∷ xs) = ap (λ (b : Bool). test (image first) || b) (any_map test image xs)

pub bearer_any : (items : List Item) (tag : Tag) (id : ItemId) → list_any (id_eq id) (bearers items tag) ≡ is_bearer items tag id
bearer_any items tag id = any_map (id_eq id) id_at (filter (bears tag) items) ∙ any_filter (λ (item : Item). id_eq id item.id) (bears tag) items

-- the bearers of a name are those that bear it
pub bearers_list : (items : List Item) (tag : Tag) → AreById items → Lists (bearers items tag) (is_bearer items tag)
bearers_list items tag order = record {
  order = ascending_filter id_at id_cmp (bears tag) items order;
  each = bearer_any items tag;
}

-- ---- members

-- what is among elements
pub any_some : {X : Type 0} (test : X → Bool) (Fact : X → Type 0) (xs : List X) → AllByRecursion Fact xs → list_any test xs ≡ true
    → (x : X) × (test x ≡ true) × Fact x
any_some test Fact [] facts has = absurd (cc)
any_some {X} test Fact (first ∷ xs) facts has = by (test first) refl has (any_some test Fact xs facts.1)
  where
    by : (is : Bool) → test first ≡ is → (is || list_any test xs) ≡ true → (list_any test xs ≡ true → (x : X) × (test x ≡ true) × Fact x)
        → (x : X) × (test x ≡ true) × Fact x
    by true is has later = (first, is, facts.0)
    by false is has later = later has

-- elements that are in a list pass a test that some element passes
pub all_in : {X : Type 0} (xs : List X) → AllByRecursion (λ (x : X). (test : X → Bool) → test x ≡ true → list_any test xs ≡ true) xs
all_in [] = tt
all_in {X} (first ∷ xs) = (
  (λ test is. ap (λ (b : Bool). b || list_any test xs) is),
  all_weaker _ _ (λ x found test is. or_right (test first) (list_any test xs) (found test is)) xs (all_in xs),
)
  where
    or_right : (one other : Bool) → other ≡ true → (one || other) ≡ true
    or_right true other is = refl
    or_right false other is = is

-- an item of one list and one of the other with the same id are the same
abbrev pub AreSame : List Item → List Item → Type 0
AreSame one other = AllByRecursion (λ (item : Item). AllByRecursion (λ (twin : Item). id_eq item.id twin.id ≡ true → item ≡ twin) other) one

-- ---- live ids

abbrev pub is_live_id : List Item → ItemId → Bool
is_live_id items id = list_any (λ (item : Item). id_eq id item.id) (live items)

pub live_any : (items : List Item) (id : ItemId) → is_live_id items id ≡ list_any (λ (item : Item). is_live items item && id_eq id item.id) items
unfolding live
live_any items id = any_filter (λ (item : Item). id_eq id item.id) (is_live items) items

-- whether an id is live under a tag
abbrev pub lives_under : List Item → Tag → ItemId → Bool
lives_under items tag id = list_any (id_eq id) (live_under (bearers items) tag)

-- whether each item with an id stands among items
abbrev pub IsIn : List Item → Item → Type 0
IsIn items item = (test : Item → Bool) → test item ≡ true → list_any test items ≡ true

-- an item is live exactly if its id is under its tag
live_if : (items : List Item) (item : Item) (tag : Tag) → IsIn items item → tag_of item ≡ Some tag → is_live items item ≡ lives_under items tag item.id
live_if items item tag here is = by item.part refl is
  where
    its : (family : Family) → family_of item.part ≡ Some family → ◌≡◌ {A = Option Tag} (Some (name_tag family item.name)) (Some tag)
        → ((ids bearers : List ItemId) → live_by (role_of family) ids bearers ≡ take 1 ids) → is_live items item ≡ lives_under items tag item.id
    its family of_family is takes =
        let same : name_tag family item.name ≡ tag = cc in
        live_is item family of_family items ∙ sym (leads_is items family item.name item.id)
        ∙ sym (first_any item.id (bearers items (name_tag family item.name)))
        ∙ ap (list_any (id_eq item.id)) (sym (takes (bearers items (name_tag family item.name)) (bearers items (name_tag families.Zone item.name))))
        ∙ ap (λ (tag : Tag). lives_under items tag item.id) same

    among : (tag : Tag) → tag_of item ≡ Some tag → list_any (id_eq item.id) (bearers items tag) ≡ true
    among tag is =
        bearer_any items tag item.id
        ∙ here (λ (each : Item). bears tag each && id_eq item.id each.id)
        (and_both _ _ (ap (λ (found : Option Tag). option_eq tag_eq found (Some tag)) is ∙ tag_itself tag) (id_itself item.id))

    member : (zone : List ℕ) → zone_of item.part ≡ Some zone → family_of item.part ≡ None → tag_of item ≡ Some (member_tag zone) → member_tag zone ≡ tag
        → is_live items item ≡ lives_under items tag item.id
    member zone of_zone of_none is same =
        ap₂ (λ (held zoned : Bool). held || zoned)
        (ap (λ (family : Option Family). unwrap_or (option_map (λ family. is_item item.id (holder items family item.name)) family) false) of_none)
        (ap (λ (zone : Option (List ℕ)). unwrap_or (option_map (λ zone. is_some (holder items families.Zone zone)) zone) false) of_zone)
        ∙ held_if items zone
        ∙ either (is_empty (bearers items (name_tag families.Zone zone))) (bearers items (member_tag zone)) (among (member_tag zone) is)
        ∙ ap (λ (tag : Tag). lives_under items tag item.id) same
      where
        either : (empty : Bool) (ids : List ItemId) → list_any (id_eq item.id) ids ≡ true → not empty ≡ list_any (id_eq item.id) (cond empty [] ids)
        either true ids has = refl
        either false ids has = sym has

    by : (part : ItemPart) → item.part ≡ part → tag_by item.name part ≡ Some tag → is_live items item ≡ lives_under items tag item.id
    by (parts.Sensor sensor) part is = its families.Sensor (ap family_of part) is (λ ids bearers. refl)
    by parts.Fan part is = its families.Fan (ap family_of part) is (λ ids bearers. refl)
    by (parts.Zone setting) part is = its families.Zone (ap family_of part) is (λ ids bearers. refl)
    by (parts.Control control) part is =
        let same : member_tag control.zone ≡ tag = cc in
        member control.zone (ap zone_of part) (ap family_of part) (ap (tag_by item.name) part) same
    by (parts.Mux mux) part is = absurd (cc)
    by parts.Passive part is = absurd (cc)

-- an item that is noted under no tag is not live
not_live : (items : List Item) (item : Item) → tag_of item ≡ None → is_live items item ≡ false
not_live items item none = by item.part refl none
  where
    its : (part : ItemPart) → item.part ≡ part → family_of part ≡ None → zone_of part ≡ None → is_live items item ≡ false
    its part is of_none in_none =
        ap₂ (λ (held zoned : Bool). held || zoned)
        (ap (λ (family : Option Family). unwrap_or (option_map (λ family. is_item item.id (holder items family item.name)) family) false)
        (ap family_of is ∙ of_none))
        (ap (λ (zone : Option (List ℕ)). unwrap_or (option_map (λ zone. is_some (holder items families.Zone zone)) zone) false) (ap zone_of is ∙ in_none))

    by : (part : ItemPart) → item.part ≡ part → tag_by item.name part ≡ None → is_live items item ≡ false
    by (parts.Sensor sensor) is none = absurd (cc)
    by parts.Fan is none = absurd (cc)
    by (parts.Zone setting) is none = absurd (cc)
    by (parts.Control control) is none = absurd (cc)
    by (parts.Mux mux) is none = its (parts.Mux mux) is refl refl
    by parts.Passive is none = its parts.Passive is refl refl

-- an item bears its tag alone
tag_borne : (tag : Tag) (item : Item) → bears tag item ≡ true → tag_of item ≡ Some tag
tag_borne tag item is = by (tag_of item) is
  where
    by : (found : Option Tag) → option_eq tag_eq found (Some tag) ≡ true → found ≡ Some tag
    by None same = absurd (cc)
    by (Some other) same = ap Some (tag_same other tag same)

-- what is live under a tag is noted there
under_any : (items : List Item) (tag : Tag) (id : ItemId) → lives_under items tag id ≡ true → list_any (id_eq id) (bearers items tag) ≡ true
under_any items tag id is = by tag.role (bearers items tag) (bearers items (name_tag families.Zone tag.name)) is
  where
    first : (ids : List ItemId) → list_any (id_eq id) (take 1 ids) ≡ true → list_any (id_eq id) ids ≡ true
    first [] is = absurd (cc)
    first (one ∷ ids) is = ap (λ (b : Bool). b || list_any (id_eq id) ids) (sym (or_none (id_eq id one)) ∙ is)

    all : (empty : Bool) (ids : List ItemId) → list_any (id_eq id) (cond empty [] ids) ≡ true → list_any (id_eq id) ids ≡ true
    all true ids is = absurd (cc)
    all false ids is = is

    by : (role : Role) (ids bearers : List ItemId) → list_any (id_eq id) (live_by role ids bearers) ≡ true → list_any (id_eq id) ids ≡ true
    by roles.Sensor ids bearers is = first ids is
    by roles.Zone ids bearers is = first ids is
    by roles.Fan ids bearers is = first ids is
    by roles.Member ids bearers is = all (is_empty bearers) ids is

-- the item that is live under a tag
pub liver : (Fact : Item → Type 0) (items : List Item) (tag : Tag) (id : ItemId) → AllByRecursion Fact items → lives_under items tag id ≡ true
    → (x : Item) × (id ≡ x.id) × (tag_of x ≡ Some tag) × Fact x
liver Fact items tag id facts is =
    let found = any_some (λ (item : Item). bears tag item && id_eq id item.id) Fact items facts (sym (bearer_any items tag id) ∙ under_any items tag id is) in
    (found.0, id_same id found.0.id (and_second _ _ found.1), tag_borne tag found.0 (and_first _ _ found.1), found.2)

-- an id that is live under a tag is live
pub under_live : (items : List Item) (tag : Tag) (id : ItemId) → lives_under items tag id ≡ true → is_live_id items id ≡ true
under_live items tag id is =
    let found = liver (IsIn items) items tag id (all_in items) is in
    let x = found.0 in
    let lives : is_live items x ≡ true = live_if items x tag found.3 found.2 ∙ ap (lives_under items tag) (sym found.1) ∙ is in
    live_any items id
    ∙ found.3 (λ (item : Item). is_live items item && id_eq id item.id) (and_both _ _ lives (ap (λ (id : ItemId). id_eq id x.id) found.1 ∙ id_itself x.id))

-- a live id is live under a tag
pub live_under_some : (items : List Item) (id : ItemId) → is_live_id items id ≡ true → (tag : Tag) × (lives_under items tag id ≡ true)
live_under_some items id is =
    let found = any_some (λ (item : Item). is_live items item && id_eq id item.id) (IsIn items) items (all_in items) (sym (live_any items id) ∙ is) in
    let x = found.0 in
    by x found.2 (tag_of x) refl (and_first _ _ found.1) (id_same id x.id (and_second _ _ found.1))
  where
    by : (x : Item) → IsIn items x → (tag : Option Tag) → tag_of x ≡ tag → is_live items x ≡ true → id ≡ x.id
        → (tag : Tag) × (lives_under items tag id ≡ true)
    by x here None none lives same = absurd (true≢false (sym lives ∙ not_live items x none))
    by x here (Some tag) some lives same = (tag, ap (lives_under items tag) same ∙ sym (live_if items x tag here some) ∙ lives)
