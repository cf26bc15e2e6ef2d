-- Families, roles, names, and the items that hold them.
use Rattle.std.proofs.Common.{◌≡◌, ◌∙◌, ℕ, Bool, true, false, cond, ◌||◌, List, [], ◌∷◌, map, filter, Option}
use Rattle.std.proofs.Common.{Some, None, option_map, is_some, refl, sym, ap, ap₂, true≢false}
use Rattle.std.specs.Prelude.{filter_map}
use Rattle.std.specs.Option.{unwrap_or}
use Rattle.std.specs.List.{AllByRecursion, IsDistinct, cons_option}
use Rattle.std.specs.Cmp.Lexicographic.{bytes_decides}
use denote.Enum.Bare.{sameb}
use Rattle.cfg_json.specs.declared.item.Item.{Item}
use Rattle.cfg_json.specs.declared.item.ItemId.{ItemId}
use Rattle.cfg_json.specs.declared.item.ItemPart.{ItemPart}
use Rattle.cfg_json.specs.declared.item.ItemPart.TheVariants as parts
use Rattle.inventory.specs.contracts.tag.Role.{the_type as roles_type}
use Rattle.inventory.specs.declared.family.Family.{Family}
use Rattle.inventory.specs.declared.family.Family.TheVariants as families
use Rattle.inventory.specs.declared.tag.Role.{Role}
use Rattle.inventory.specs.declared.tag.Role.TheVariants as roles
use Rattle.inventory.specs.Bearers.{role_eq}
use Rattle.inventory.specs.Items.{borne_name, family_of, family_eq, holder, id_eq, is_item, is_live, live, same_name, zone_of}
use Rattle.inventory.specs.Orders.{HaveOwnIds}
use Rattle.inventory.specs.Laws.{NamesDiffer}
use Rattle.inventory.proofs.BoardLemmas.{and_first, and_second}
use Rattle.inventory.proofs.ListLemmas.{all_filter, all_map, all_mapped, all_passes}
use Rattle.inventory.proofs.IdsLemmas.{id_same}

-- ---- families and names

pub family_same : (family other : Family) → family_eq family other ≡ true → family ≡ other
family_same families.Sensor families.Sensor same = refl
family_same families.Zone families.Zone same = refl
family_same families.Fan families.Fan same = refl
family_same families.Sensor families.Zone same = absurd (cc)
family_same families.Sensor families.Fan same = absurd (cc)
family_same families.Zone families.Sensor same = absurd (cc)
family_same families.Zone families.Fan same = absurd (cc)
family_same families.Fan families.Sensor same = absurd (cc)
family_same families.Fan families.Zone same = absurd (cc)

-- ---- roles

-- the derived test of roles says the same as theirs
abbrev pub role_test : Role → Role → Bool
role_test role other = sameb roles_type role other

pub role_test_is : (role other : Role) → role_test role other ≡ role_eq role other
role_test_is roles.Sensor roles.Sensor = refl
role_test_is roles.Sensor roles.Zone = refl
role_test_is roles.Sensor roles.Fan = refl
role_test_is roles.Sensor roles.Member = refl
role_test_is roles.Zone roles.Sensor = refl
role_test_is roles.Zone roles.Zone = refl
role_test_is roles.Zone roles.Fan = refl
role_test_is roles.Zone roles.Member = refl
role_test_is roles.Fan roles.Sensor = refl
role_test_is roles.Fan roles.Zone = refl
role_test_is roles.Fan roles.Fan = refl
role_test_is roles.Fan roles.Member = refl
role_test_is roles.Member roles.Sensor = refl
role_test_is roles.Member roles.Zone = refl
role_test_is roles.Member roles.Fan = refl
role_test_is roles.Member roles.Member = refl

pub role_same : (role other : Role) → role_eq role other ≡ true → role ≡ other
role_same roles.Sensor roles.Sensor same = refl
role_same roles.Zone roles.Zone same = refl
role_same roles.Fan roles.Fan same = refl
role_same roles.Member roles.Member same = refl
role_same roles.Sensor roles.Zone same = absurd (cc)
role_same roles.Sensor roles.Fan same = absurd (cc)
role_same roles.Sensor roles.Member same = absurd (cc)
role_same roles.Zone roles.Sensor same = absurd (cc)
role_same roles.Zone roles.Fan same = absurd (cc)
role_same roles.Zone roles.Member same = absurd (cc)
role_same roles.Fan roles.Sensor same = absurd (cc)
role_same roles.Fan roles.Zone same = absurd (cc)
role_same roles.Fan roles.Member same = absurd (cc)
role_same roles.Member roles.Sensor same = absurd (cc)
role_same roles.Member roles.Zone same = absurd (cc)
role_same roles.Member roles.Fan same = absurd (cc)

pub role_itself : (role : Role) → role_eq role role ≡ true
role_itself roles.Sensor = refl
role_itself roles.Zone = refl
role_itself roles.Fan = refl
role_itself roles.Member = refl

-- ---- items that hold their names

pub or_none : (b : Bool) → (b || false) ≡ b
or_none true = refl
or_none false = refl

-- an item of a family is in no zone, so it is live where it holds its name
pub live_is : (item : Item) (family : Family) → family_of item.part ≡ Some family → (items : List Item)
    → is_live items item ≡ is_item item.id (holder items family item.name)
live_is item family of_family items = by item.part refl of_family
  where
    its : (part : ItemPart) → item.part ≡ part → zone_of part ≡ None → family_of part ≡ Some family
        → is_live items item ≡ is_item item.id (holder items family item.name)
    its part is none of_family =
        ap₂ (λ (held zoned : Bool). held || zoned)
        (ap (λ (family : Option Family). unwrap_or (option_map (λ family. is_item item.id (holder items family item.name)) family) false)
        (ap family_of is ∙ of_family))
        (ap (λ (zone : Option (List ℕ)). unwrap_or (option_map (λ zone. is_some (holder items families.Zone zone)) zone) false) (ap zone_of is ∙ none))
        ∙ or_none (is_item item.id (holder items family item.name))

    by : (part : ItemPart) → item.part ≡ part → family_of part ≡ Some family → is_live items item ≡ is_item item.id (holder items family item.name)
    by (parts.Sensor sensor) is of_family = its (parts.Sensor sensor) is refl of_family
    by parts.Fan is of_family = its parts.Fan is refl of_family
    by (parts.Zone setting) is of_family = its (parts.Zone setting) is refl of_family
    by (parts.Control control) is of_family = absurd (cc)
    by (parts.Mux mux) is of_family = absurd (cc)
    by parts.Passive is of_family = absurd (cc)

-- the names of items that hold them
names_apart : (items these : List Item) → AllByRecursion (λ (each : Item). is_live items each ≡ true) these → HaveOwnIds these
    → IsDistinct same_name (filter_map borne_name these)
unfolding IsDistinct
names_apart items [] live differ = tt
names_apart items (item ∷ these) live differ = by (family_of item.part) refl (names_apart items these live.1 differ.1)
  where
    one_holder : (other : Item) (held : Option Item) → is_item item.id held ≡ true → is_item other.id held ≡ true → id_eq item.id other.id ≡ true
    one_holder other None one two = absurd (cc)
    one_holder other (Some held) one two = ap (λ (id : ItemId). id_eq id other.id) (sym (id_same held.id item.id one)) ∙ two

    apart : (family : Family) → family_of item.part ≡ Some family → (other : Item) → id_eq item.id other.id ≡ false → is_live items other ≡ true
        → (its : Family) → family_of other.part ≡ Some its
        → (same : Bool) → same_name (family, item.name) (its, other.name) ≡ same → same ≡ false
    apart family of_family other differ lives its of_its false is = refl
    apart family of_family other differ lives its of_its true is =
        let held : is_item item.id (holder items family item.name) ≡ true = sym (live_is item family of_family items) ∙ live.0 in
        let families : family ≡ its = family_same family its (and_first _ _ is) in
        let names : item.name ≡ other.name = (bytes_decides item.name other.name).0 (and_second _ _ is) in
        let also : is_item other.id (holder items family item.name) ≡ true =
        ap₂ (λ (family : Family) (name : List ℕ). is_item other.id (holder items family name)) families names
        ∙ sym (live_is other its of_its items) ∙ lives in
        absurd (true≢false (sym (one_holder other (holder items family item.name) held also) ∙ differ))

    rest_apart : (family : Family) → family_of item.part ≡ Some family → (later : List Item)
        → AllByRecursion (λ (id : ItemId). id_eq item.id id ≡ false) (map (λ (item : Item). item.id) later)
        → AllByRecursion (λ (each : Item). is_live items each ≡ true) later
        → AllByRecursion (λ (name : Family × List ℕ). same_name (family, item.name) name ≡ false) (filter_map borne_name later)
    rest_apart family of_family [] differ lives = tt
    rest_apart family of_family (other ∷ later) differ lives = each (family_of other.part) refl (rest_apart family of_family later differ.1 lives.1)
      where
        each : (its : Option Family) → family_of other.part ≡ its
            → AllByRecursion (λ (name : Family × List ℕ). same_name (family, item.name) name ≡ false) (filter_map borne_name later)
            → AllByRecursion (λ (name : Family × List ℕ). same_name (family, item.name) name ≡ false)
            (cons_option (option_map (λ (family : Family). (family, other.name)) its) (filter_map borne_name later))
        each None of_none rest = rest
        each (Some its) of_its rest = (apart family of_family other differ.0 lives.0 its of_its _ refl, rest)

    by : (family : Option Family) → family_of item.part ≡ family → IsDistinct same_name (filter_map borne_name these)
        → IsDistinct same_name (cons_option (option_map (λ (family : Family). (family, item.name)) family) (filter_map borne_name these))
    by None of_none rest = rest
    by (Some family) of_family rest = (rest_apart family of_family these differ.0 live.1, rest)

ids_left : (test : Item → Bool) (items : List Item) → HaveOwnIds items → HaveOwnIds (filter test items)
unfolding IsDistinct
ids_left test [] differ = tt
ids_left test (first ∷ items) differ = by (test first) (ids_left test items differ.1)
  where
    by : (passes : Bool) → HaveOwnIds (filter test items) → HaveOwnIds (cond passes (first ∷ filter test items) (filter test items))
    by true rest =
        (all_map _ (λ (item : Item). item.id) _ (all_filter _ test items (all_mapped _ (λ (item : Item). item.id) items differ.0)), rest)
    by false rest = rest

pub names_differ : NamesDiffer
unfolding live
names_differ items differ =
    names_apart items (filter (is_live items) items) (all_passes (is_live items) items) (ids_left (is_live items) items differ)
