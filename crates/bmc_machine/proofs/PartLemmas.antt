-- Controllers, zones and fans are picked from items, each by the item that it is a part of.
use Rattle.std.proofs.Common.{◌≡◌, ℕ, List, [], ◌∷◌, Option, Some, None, refl, sym, ap, ◌∙◌}
use Rattle.std.specs.Prelude.{filter_map}
use Rattle.std.specs.List.{cons_option}
use Rattle.std.proofs.lemmas.Option.{none-some, same_Some}
use Rattle.cfg_json.specs.declared.item.Item.{Item}
use Rattle.cfg_json.specs.declared.item.ItemId.{ItemId}
use Rattle.cfg_json.specs.declared.item.ItemPart.{ItemPart}
use Rattle.cfg_json.specs.declared.item.ItemPart.TheVariants as parts
use Rattle.fan_zone.specs.Live.{LiveControl, with_control, controls, LiveZone, with_zone, zones, LiveFan, with_fan, fans}

-- ---- controllers

abbrev pub control_in : ItemId → ItemPart → Option LiveControl
control_in id (parts.Control item) = Some (record { id = id; item = item })
control_in id (parts.Sensor sensor) = None
control_in id parts.Fan = None
control_in id (parts.Zone setting) = None
control_in id (parts.Mux part) = None
control_in id parts.Passive = None

abbrev pub control_of : Item → Option LiveControl
control_of item = control_in item.id item.part

pub controls_are : (items : List Item) → controls items ≡ filter_map control_of items
controls_are [] = refl
controls_are (item ∷ items) = by item.part ∙ ap (cons_option (control_of item)) (controls_are items)
  where
    by : (part : ItemPart) → with_control item.id part (controls items) ≡ cons_option (control_in item.id part) (controls items)
    by (parts.Control control) = refl
    by (parts.Sensor sensor) = refl
    by parts.Fan = refl
    by (parts.Zone setting) = refl
    by (parts.Mux part) = refl
    by parts.Passive = refl

pub control_id : (item : Item) (control : LiveControl) → control_of item ≡ Some control → control.id ≡ item.id
control_id item control is = by item.part is
  where
    by : (part : ItemPart) → control_in item.id part ≡ Some control → control.id ≡ item.id
    by (parts.Control part) is = ap (λ (it : LiveControl). it.id) (sym (same_Some _ control is))
    by (parts.Sensor sensor) is = absurd (none-some control is)
    by parts.Fan is = absurd (none-some control is)
    by (parts.Zone setting) is = absurd (none-some control is)
    by (parts.Mux part) is = absurd (none-some control is)
    by parts.Passive is = absurd (none-some control is)

-- ---- zones

abbrev pub zone_in : ItemId → List ℕ → ItemPart → Option LiveZone
zone_in id name (parts.Zone setting) = Some (record { id = id; name = name; setting = setting })
zone_in id name (parts.Sensor sensor) = None
zone_in id name parts.Fan = None
zone_in id name (parts.Control item) = None
zone_in id name (parts.Mux part) = None
zone_in id name parts.Passive = None

abbrev pub zone_at : Item → Option LiveZone
zone_at item = zone_in item.id item.name item.part

pub zones_are : (items : List Item) → zones items ≡ filter_map zone_at items
zones_are [] = refl
zones_are (item ∷ items) = by item.part ∙ ap (cons_option (zone_at item)) (zones_are items)
  where
    by : (part : ItemPart) → with_zone item.id item.name part (zones items) ≡ cons_option (zone_in item.id item.name part) (zones items)
    by (parts.Zone setting) = refl
    by (parts.Sensor sensor) = refl
    by parts.Fan = refl
    by (parts.Control control) = refl
    by (parts.Mux part) = refl
    by parts.Passive = refl

pub zone_id : (item : Item) (zone : LiveZone) → zone_at item ≡ Some zone → zone.id ≡ item.id
zone_id item zone is = by item.part is
  where
    by : (part : ItemPart) → zone_in item.id item.name part ≡ Some zone → zone.id ≡ item.id
    by (parts.Zone setting) is = ap (λ (it : LiveZone). it.id) (sym (same_Some _ zone is))
    by (parts.Sensor sensor) is = absurd (none-some zone is)
    by parts.Fan is = absurd (none-some zone is)
    by (parts.Control control) is = absurd (none-some zone is)
    by (parts.Mux part) is = absurd (none-some zone is)
    by parts.Passive is = absurd (none-some zone is)

-- ---- fans

abbrev pub fan_in : ItemId → List ℕ → ItemPart → Option LiveFan
fan_in id name parts.Fan = Some (record { id = id; name = name })
fan_in id name (parts.Sensor sensor) = None
fan_in id name (parts.Zone setting) = None
fan_in id name (parts.Control item) = None
fan_in id name (parts.Mux part) = None
fan_in id name parts.Passive = None

abbrev pub fan_at : Item → Option LiveFan
fan_at item = fan_in item.id item.name item.part

pub fans_are : (items : List Item) → fans items ≡ filter_map fan_at items
fans_are [] = refl
fans_are (item ∷ items) = by item.part ∙ ap (cons_option (fan_at item)) (fans_are items)
  where
    by : (part : ItemPart) → with_fan item.id item.name part (fans items) ≡ cons_option (fan_in item.id item.name part) (fans items)
    by parts.Fan = refl
    by (parts.Sensor sensor) = refl
    by (parts.Zone setting) = refl
    by (parts.Control control) = refl
    by (parts.Mux part) = refl
    by parts.Passive = refl

pub fan_id : (item : Item) (fan : LiveFan) → fan_at item ≡ Some fan → fan.id ≡ item.id
fan_id item fan is = by item.part is
  where
    by : (part : ItemPart) → fan_in item.id item.name part ≡ Some fan → fan.id ≡ item.id
    by parts.Fan is = ap (λ (it : LiveFan). it.id) (sym (same_Some _ fan is))
    by (parts.Sensor sensor) is = absurd (none-some fan is)
    by (parts.Zone setting) is = absurd (none-some fan is)
    by (parts.Control control) is = absurd (none-some fan is)
    by (parts.Mux part) is = absurd (none-some fan is)
    by parts.Passive is = absurd (none-some fan is)
