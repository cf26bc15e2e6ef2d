-- Lists that grow by what each item gives.
use Rattle.std.proofs.Common.{◌≡◌, ℕ, ◌+◌, ◌<◌, ◌≤◌, List, [], ◌∷◌, ◌++◌, length, map, drop, get_or, refl, ap, sym, ◌∙◌, arith, Bor}
use Rattle.std.proofs.lemmas.List.{append_assoc, append-nil, length-append, length-map, map-append, drop_more, drop_all}
use Rattle.cfg_json.specs.declared.item.ItemId.{ItemId}
use Rattle.cfg_json.specs.declared.item.Item.{Item}
use Rattle.cfg_json.specs.declared.item.ItemPart.{ItemPart}
use Rattle.cfg_json.specs.declared.item.ItemPart.TheVariants as parts
use Rattle.fan_zone.specs.Live.{items_of, zones, fans, with_zone, with_fan, LiveZone, LiveFan}

zone_one : (id : ItemId) (name : List ℕ) (part : ItemPart) (more : List LiveZone) → with_zone id name part more ≡ with_zone id name part [] ++ more
zone_one id name (parts.Sensor sensor) more = refl
zone_one id name parts.Fan more = refl
zone_one id name (parts.Zone setting) more = refl
zone_one id name (parts.Control item) more = refl
zone_one id name (parts.Mux part) more = refl
zone_one id name parts.Passive more = refl

pub zones_more : (item : Item) (more : List Item) → zones (item ∷ more) ≡ zones (item ∷ []) ++ zones more
zones_more item more = zone_one item.id item.name item.part (zones more)

fan_one : (id : ItemId) (name : List ℕ) (part : ItemPart) (more : List LiveFan) → with_fan id name part more ≡ with_fan id name part [] ++ more
fan_one id name (parts.Sensor sensor) more = refl
fan_one id name parts.Fan more = refl
fan_one id name (parts.Zone setting) more = refl
fan_one id name (parts.Control item) more = refl
fan_one id name (parts.Mux part) more = refl
fan_one id name parts.Passive more = refl

pub fans_more : (item : Item) (more : List Item) → fans (item ∷ more) ≡ fans (item ∷ []) ++ fans more
fans_more item more = fan_one item.id item.name item.part (fans more)

-- what the loop keeps: the list is what it was and what the items before n gave, and there is room for the others
pub record Renewing {X Y : Type 0} (parts : List Item → List X) (make : X → Y) (live : List (Bor Item)) (start now : List Y)
    (room_start room_now n : ℕ) : Type 0
  where
    pub rest : now ++ map make (parts (items_of (drop n live))) ≡ start ++ map make (parts (items_of live))
    pub room : length now + length (parts (items_of (drop n live))) ≤ room_now
    pub kept : room_start ≤ room_now

pub renewing_more : {X Y : Type 0} (parts : List Item → List X) (make : X → Y) (live : List (Bor Item)) (start now next : List Y)
    (room_start room room_next n : ℕ) (d item : Bor Item)
    → ((i : Item) (more : List Item) → parts (i ∷ more) ≡ parts (i ∷ []) ++ parts more) → Renewing parts make live start now room_start room n
    → n < length live → item ≡ get_or live n d
    → next ≡ now ++ map make (parts (item.now ∷ [])) → room ≤ room_next → Renewing parts make live start next room_start room_next (n + 1)
renewing_more {X} {Y} parts make live start now next room_start room room_next n d item more r lt at is grown =
    let rest = drop (n + 1) live in
    let one = parts (item.now ∷ []) in
    let here : parts (items_of (drop n live)) ≡ one ++ parts (items_of rest) = ap (λ (l : List (Bor Item)). parts (items_of l))
    (drop_more live n d lt ∙ ap (λ (i : Bor Item). i ∷ rest) (sym at)) ∙ more item.now (items_of rest) in
    let others = parts (items_of rest) in
    let size : length (parts (items_of (drop n live))) ≡ length one + length others = ap length here ∙ length-append one others in
    let longer : length next ≡ length now + length (map make one) = ap length is ∙ length-append now (map make one) in
    let mapped : map make (parts (items_of (drop n live))) ≡ map make one ++ map make others = ap (map make) here ∙ map-append make one others in
    record {
      rest = ap (λ (l : List Y). l ++ map make others) is ∙ (append_assoc now (map make one) (map make others)
          ∙ (ap (λ (l : List Y). now ++ l) (sym mapped) ∙ r.rest));
      room = omega (arith, r.room, size, longer, length-map one make, grown);
      kept = omega (arith, r.kept, grown);
    }

pub renewing_end : {X Y : Type 0} (parts : List Item → List X) (make : X → Y) (live : List (Bor Item)) (start now : List Y) (room_start room n : ℕ) → parts []
    ≡ [] → Renewing parts make live start now room_start room n → length live ≤ n
    → now ≡ start ++ map make (parts (items_of live))
renewing_end {X} {Y} parts make live start now room_start room n none r le =
    sym (ap (λ (l : List (Bor Item)). now ++ map make (parts (items_of l))) (drop_all n live le)
    ∙ (ap (λ (l : List X). now ++ map make l) none ∙ append-nil now)) ∙ r.rest
