-- Zones read nothing of the items that do not act in them.
use Rattle.std.proofs.Common.{◌≡◌, ◌∙◌, ℕ, ◌+◌, cond, List, [], ◌∷◌, length, filter, refl, ap, arith}
use Rattle.cfg_json.specs.declared.item.ItemId.{ItemId}
use Rattle.cfg_json.specs.declared.item.Item.{Item}
use Rattle.cfg_json.specs.declared.item.ItemPart.{ItemPart}
use Rattle.cfg_json.specs.declared.item.ItemPart.TheVariants as parts
use Rattle.fan_zone.specs.Live.{LiveControl, LiveZone, LiveFan, acts, controls, fans, zones, with_control, with_fan, with_zone}

abbrev item_of : ItemId → List ℕ → ItemPart → Item
item_of id name part = record { id = id; name = name; part = part }

-- an item in front of others, if it acts
abbrev in_front : ItemId → List ℕ → ItemPart → List Item → List Item
in_front id name part more = cond (acts part) (item_of id name part ∷ more) more

controls_front : (id : ItemId) (name : List ℕ) (part : ItemPart) (more : List Item)
    → controls (in_front id name part more) ≡ with_control id part (controls more)
controls_front id name (parts.Sensor sensor) more = refl
controls_front id name parts.Fan more = refl
controls_front id name (parts.Zone setting) more = refl
controls_front id name (parts.Control item) more = refl
controls_front id name (parts.Mux part) more = refl
controls_front id name parts.Passive more = refl

zones_front : (id : ItemId) (name : List ℕ) (part : ItemPart) (more : List Item)
    → zones (in_front id name part more) ≡ with_zone id name part (zones more)
zones_front id name (parts.Sensor sensor) more = refl
zones_front id name parts.Fan more = refl
zones_front id name (parts.Zone setting) more = refl
zones_front id name (parts.Control item) more = refl
zones_front id name (parts.Mux part) more = refl
zones_front id name parts.Passive more = refl

fans_front : (id : ItemId) (name : List ℕ) (part : ItemPart) (more : List Item)
    → fans (in_front id name part more) ≡ with_fan id name part (fans more)
fans_front id name (parts.Sensor sensor) more = refl
fans_front id name parts.Fan more = refl
fans_front id name (parts.Zone setting) more = refl
fans_front id name (parts.Control item) more = refl
fans_front id name (parts.Mux part) more = refl
fans_front id name parts.Passive more = refl

-- the items that act
abbrev acting : List Item → List Item
acting items = filter (λ (item : Item). acts item.part) items

pub controls_acting : (items : List Item) → controls (filter (λ (item : Item). acts item.part) items) ≡ controls items
controls_acting [] = refl
controls_acting (item ∷ items) =
    controls_front item.id item.name item.part (acting items) ∙ ap (with_control item.id item.part) (controls_acting items)

pub zones_acting : (items : List Item) → zones (filter (λ (item : Item). acts item.part) items) ≡ zones items
zones_acting [] = refl
zones_acting (item ∷ items) =
    zones_front item.id item.name item.part (acting items) ∙ ap (with_zone item.id item.name item.part) (zones_acting items)

pub fans_acting : (items : List Item) → fans (filter (λ (item : Item). acts item.part) items) ≡ fans items
fans_acting [] = refl
fans_acting (item ∷ items) =
    fans_front item.id item.name item.part (acting items) ∙ ap (with_fan item.id item.name item.part) (fans_acting items)

-- an item in front is counted once, if it acts
counts_front : (id : ItemId) (name : List ℕ) (part : ItemPart) (more : List Item) (zs : List LiveZone) (fs : List LiveFan) (cs : List LiveControl)
    → length more ≡ length zs + length fs + length cs
    → length (in_front id name part more) ≡ length (with_zone id name part zs) + length (with_fan id name part fs) + length (with_control id part cs)
counts_front id name (parts.Sensor sensor) more zs fs cs is = is
counts_front id name parts.Fan more zs fs cs is = omega (arith, is)
counts_front id name (parts.Zone setting) more zs fs cs is = omega (arith, is)
counts_front id name (parts.Control item) more zs fs cs is = omega (arith, is)
counts_front id name (parts.Mux part) more zs fs cs is = is
counts_front id name parts.Passive more zs fs cs is = is

pub length_acting : (items : List Item)
    → length (filter (λ (item : Item). acts item.part) items) ≡ length (zones items) + length (fans items) + length (controls items)
length_acting [] = refl
length_acting (item ∷ items) =
    counts_front item.id item.name item.part (acting items) (zones items) (fans items) (controls items) (length_acting items)
