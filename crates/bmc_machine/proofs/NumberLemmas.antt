-- The names that controllers give, by numbers: slots of sensors, and positions of zones.
use Rattle.std.proofs.Common.{◌≡◌, ℕ, zero, suc, ◌+◌, Bool, true, false, cond, ◌&&◌, ◌||◌, List, [], ◌∷◌, map, Option, Some, None, refl, ap, ap₂, sym, ◌∙◌}
use Rattle.std.proofs.Common.{arith, slice_get, nat_eq}
use Rattle.std.specs.Prelude.{⊤, bytes_eq, find, option_and_then, slice_index_or}
use Rattle.std.specs.Cmp.Lexicographic.{bytes_decides}
use Rattle.std.specs.List.{list_any}
use Rattle.std.specs.Option.{option_eq}
use Rattle.std.proofs.lemmas.Bool.Decides.{nat_tests}
use Rattle.std.proofs.lemmas.Option.{none-some, same_Some}
use Rattle.sensor_core.specs.Sensors.{Sensor}
use Rattle.cfg_json.specs.declared.item.Item.{Item}
use Rattle.cfg_json.specs.declared.item.ItemPart.{ItemPart}
use Rattle.cfg_json.specs.declared.item.ItemPart.TheVariants as parts
use Rattle.inventory.specs.Items.{family_eq, family_of, holder}
use Rattle.inventory.specs.declared.family.Family.TheVariants as families
use Rattle.live_sensors.specs.Sensors.{LiveSensors, sensor_in, slot_of}
use Rattle.fan_zone.specs.declared.rows.ZoneRow.{ZoneRow}
use Rattle.fan_zone.specs.Inputs.{sensor_of}
use Rattle.fan_zone.specs.Live.{LiveZone, with_zone, zones}
use Rattle.fan_zone.specs.Sets.{zone_from}
use Rattle.bmc_machine.specs.Histories.{Step}
use Rattle.bmc_machine.specs.Lives.{sensor_now}
use Rattle.bmc_machine.proofs.SettledLemmas.{AreNamedOnce}

-- ---- sensors

-- the sensors in the slots of names are those of the names
pub inputs_are : (sensors : LiveSensors) (past : List Step) → ((name : List ℕ) → sensor_in sensors name ≡ sensor_now past name) → (names : List (List ℕ))
    → map (sensor_of sensors.slots) (map (slot_of sensors) names) ≡ map (sensor_now past) names
inputs_are sensors past known [] = refl
inputs_are sensors past known (name ∷ names) =
    ap₂ (λ (first : Option Sensor) (more : List (Option Sensor)). first ∷ more) (by (slot_of sensors name) ∙ known name) (inputs_are sensors past known names)
  where
    by : (slot : Option ℕ) → sensor_of sensors.slots slot ≡ option_and_then (λ slot. slice_index_or sensors.slots slot None) slot
    by None = refl
    by (Some slot) = refl

-- ---- zones

abbrev pub is_named : List ℕ → LiveZone → Bool
is_named name zone = bytes_eq zone.name name

-- the number of the first zone of a name, the first of them being n
abbrev pub zone_number : ℕ → List ℕ → List LiveZone → Option ℕ
zone_number n name [] = None
zone_number n name (zone ∷ more) = cond (is_named name zone) (Some n) (zone_number (suc n) name more)

-- the rows of zones give names the same numbers
pub number_is : (row_of : LiveZone → ZoneRow) → ((zone : LiveZone) → (row_of zone).name ≡ zone.name) → (n : ℕ) (name : List ℕ) (all : List LiveZone)
    → zone_from n (map row_of all) name ≡ zone_number n name all
number_is row_of named n name [] = refl
number_is row_of named n name (zone ∷ all) =
    ap₂ (λ (same : Bool) (later : Option ℕ). cond same (Some n) later) (ap (λ (own : List ℕ). bytes_eq own name) (named zone))
    (number_is row_of named (suc n) name all)

-- a number is that of the zone that is found
pub record IsNumber (n k : ℕ) (name : List ℕ) (all : List LiveZone) : Type 0 where
  pub behind : ℕ
  pub is : k ≡ n + behind
  pub found : slice_get all behind ≡ find (is_named name) all

pub zone_at : (n k : ℕ) (name : List ℕ) (all : List LiveZone) → zone_number n name all ≡ Some k → IsNumber n k name all
zone_at n k name [] is = absurd (none-some k is)
zone_at n k name (zone ∷ all) is =
    let here = by (is_named name zone) is (zone_at (suc n) k name all) in
    record { behind = here.0; is = here.1; found = here.2 }
  where
    by : (same : Bool) → cond same (Some n) (zone_number (suc n) name all) ≡ Some k
        → (zone_number (suc n) name all ≡ Some k → IsNumber (suc n) k name all)
        → (behind : ℕ) × (k ≡ n + behind) × (slice_get (zone ∷ all) behind ≡ cond same (Some zone) (find (is_named name) all))
    by true is later = (0, (let same = same_Some n k is in omega (arith, same)), refl)
    by false is later =
        let rest = later is in
        let at = rest.is in
        (suc rest.behind, omega (arith, at), rest.found)

-- where a zone has the name, there is a number
pub has_number : (n : ℕ) (name : List ℕ) (all : List LiveZone) → list_any (is_named name) all ≡ true → (k : ℕ) × (zone_number n name all ≡ Some k)
has_number n name [] has = absurd (cc)
has_number n name (zone ∷ all) has = by (is_named name zone) has (has_number (suc n) name all)
  where
    by : (same : Bool) → (same || list_any (is_named name) all) ≡ true
        → (list_any (is_named name) all ≡ true → (k : ℕ) × (zone_number (suc n) name all ≡ Some k))
        → (k : ℕ) × (cond same (Some n) (zone_number (suc n) name all) ≡ Some k)
    by true has later = (n, refl)
    by false has later = later has

-- no zone has the name of one before it
abbrev pub AreApart : List LiveZone → Type 0
AreApart [] = ⊤
AreApart (zone ∷ more) = (list_any (is_named zone.name) more ≡ false) × AreApart more

not_among : (test : LiveZone → Bool) (all : List LiveZone) (m : ℕ) (zone : LiveZone) → list_any test all ≡ false → slice_get all m ≡ Some zone
    → test zone ≡ false
not_among test [] m zone none at = absurd (none-some zone at)
not_among test (first ∷ all) zero zone none at =
    ap test (sym (same_Some first zone at)) ∙ by (test first) none
  where
    by : (b : Bool) → (b || list_any test all) ≡ false → b ≡ false
    by true none = none
    by false none = refl
not_among test (first ∷ all) (suc m) zone none at = not_among test all m zone (by (test first) none) at
  where
    by : (b : Bool) → (b || list_any test all) ≡ false → list_any test all ≡ false
    by true none = absurd (cc)
    by false none = none

unlike : (a b : ℕ) → (a ≡ b → ⊥) → nat_eq a b ≡ false
unlike a b apart = by (nat_eq a b) refl
  where
    by : (test : Bool) → nat_eq a b ≡ test → test ≡ false
    by true is = absurd (apart (grind (arith, nat_tests, is)))
    by false is = refl

like : (a b : ℕ) → a ≡ b → nat_eq a b ≡ true
like a b same = by (nat_eq a b) refl
  where
    by : (test : Bool) → nat_eq a b ≡ test → test ≡ true
    by true is = refl
    by false is = absurd (grind (arith, nat_tests, is, same))

bytes_same : (name other : List ℕ) → name ≡ other → bytes_eq name other ≡ true
bytes_same name other same = (bytes_decides name other).1 same

bytes_unlike : (name other : List ℕ) → (name ≡ other → ⊥) → bytes_eq name other ≡ false
bytes_unlike name other apart = by (bytes_eq name other) refl
  where
    by : (test : Bool) → bytes_eq name other ≡ test → test ≡ false
    by true is = absurd (apart ((bytes_decides name other).0 is))
    by false is = refl

-- the number of a name is that of a zone exactly where the zone has the name
pub same_zone : (n k m : ℕ) (name : List ℕ) (all : List LiveZone) (zone : LiveZone) → AreApart all → zone_number n name all ≡ Some k
    → slice_get all m ≡ Some zone → nat_eq k (n + m) ≡ bytes_eq name zone.name
same_zone n k m name [] zone apart is at = absurd (none-some k is)
same_zone n k m name (first ∷ all) zone apart is at =
    by (is_named name first) refl is (λ rest is at. same_zone (suc n) k rest name all zone apart.1 is at)
  where
    by : (same : Bool) → is_named name first ≡ same → cond same (Some n) (zone_number (suc n) name all) ≡ Some k
        → ((rest : ℕ) → zone_number (suc n) name all ≡ Some k → slice_get all rest ≡ Some zone → nat_eq k (suc n + rest) ≡ bytes_eq name zone.name)
        → nat_eq k (n + m) ≡ bytes_eq name zone.name
    by true named is later = of m at
      where
        own : first.name ≡ name
        own = (bytes_decides first.name name).0 named

        of : (m : ℕ) → slice_get (first ∷ all) m ≡ Some zone → nat_eq k (n + m) ≡ bytes_eq name zone.name
        of zero at =
            let number = same_Some n k is in
            like k (n + 0) (omega (arith, number)) ∙ sym (bytes_same name zone.name (sym own ∙ ap (λ (zone : LiveZone). zone.name) (same_Some first zone at)))
        of (suc m) at =
            let number = same_Some n k is in
            unlike k (n + suc m) (λ same. omega (arith, number, same))
            ∙ sym (bytes_unlike name zone.name (λ same. absurd (
            let other : bytes_eq zone.name first.name ≡ false = not_among (is_named first.name) all m zone apart.0 at in
            let one : bytes_eq zone.name first.name ≡ true = bytes_same zone.name first.name (sym same ∙ sym own) in
            cc)))
    by false named is later = of m at
      where
        of : (m : ℕ) → slice_get (first ∷ all) m ≡ Some zone → nat_eq k (n + m) ≡ bytes_eq name zone.name
        of zero at =
            let place = (zone_at (suc n) k name all is).is in
            unlike k (n + 0) (λ same. omega (arith, place, same))
            ∙ sym (bytes_unlike name zone.name (λ same. absurd (
            let one : bytes_eq first.name name ≡ true = bytes_same first.name name (ap (λ (zone : LiveZone). zone.name) (same_Some first zone at) ∙ sym same) in
            cc)))
        of (suc m) at =
            let next : suc n + m ≡ n + suc m = omega arith in
            ap (nat_eq k) (sym next) ∙ later m is at

-- live zones are apart
none_zone : (name : List ℕ) (items : List Item) → holder items families.Zone name ≡ None → list_any (is_named name) (zones items) ≡ false
none_zone name [] none = refl
none_zone name (item ∷ items) none = by item.part none (none_zone name items)
  where
    by : (part : ItemPart)
        → cond (option_eq family_eq (family_of part) (Some families.Zone) && bytes_eq item.name name) (Some item) (holder items families.Zone name) ≡ None
        → (holder items families.Zone name ≡ None → list_any (is_named name) (zones items) ≡ false)
        → list_any (is_named name) (with_zone item.id item.name part (zones items)) ≡ false
    by (parts.Zone setting) none later = of (bytes_eq item.name name) none
      where
        of : (same : Bool) → cond same (Some item) (holder items families.Zone name) ≡ None → (same || list_any (is_named name) (zones items)) ≡ false
        of true none = absurd (cc)
        of false none = later none
    by (parts.Sensor sensor) none later = later none
    by parts.Fan none later = later none
    by (parts.Control control) none later = later none
    by (parts.Mux part) none later = later none
    by parts.Passive none later = later none

pub apart_zones : (items : List Item) → AreNamedOnce families.Zone items → AreApart (zones items)
apart_zones [] once = tt
apart_zones (item ∷ items) once = by item.part once.0 (apart_zones items once.1)
  where
    by : (part : ItemPart) → (option_eq family_eq (family_of part) (Some families.Zone) ≡ true → holder items families.Zone item.name ≡ None)
        → AreApart (zones items) → AreApart (with_zone item.id item.name part (zones items))
    by (parts.Zone setting) once rest = (none_zone item.name items (once refl), rest)
    by (parts.Sensor sensor) once rest = rest
    by parts.Fan once rest = rest
    by (parts.Control control) once rest = rest
    by (parts.Mux part) once rest = rest
    by parts.Passive once rest = rest
