-- Fans that are kept at the front or at the back: one more of them, or an item that is none.
use Rattle.std.proofs.Common.{◌≡◌, ℕ, ◌+◌, ◌<◌, true, false, List, [], ◌∷◌, ◌++◌, length, map, take, drop, set, get_or, Some, refl, ap, sym}
use Rattle.std.proofs.Common.{◌∙◌, subst, arith, append_assoc, length-take}
use Rattle.std.proofs.lemmas.Bool.{true≢false}
use Rattle.std.proofs.lemmas.List.{append-nil, length-map, map-append, drop_more, take_more}
use Rattle.std.proofs.Math.Seq.{get_or-append_seam, set-append_seam}
use Rattle.std.specs.Borrow.{Bor}
use Rattle.cfg_json.specs.declared.item.Item.{Item}
use Rattle.cfg_json.specs.declared.item.ItemId.{ItemId}
use Rattle.cfg_json.specs.declared.item.ItemPart.{ItemPart}
use Rattle.cfg_json.specs.declared.item.ItemPart.TheVariants as parts
use Rattle.fan_zone.specs.declared.rows.FanPlan.{FanPlan}
use Rattle.fan_zone.specs.declared.rows.FanRow.{FanRow}
use Rattle.fan_zone.specs.Live.{LiveControl, LiveFan, fan_id, fans, id_eq, items_of, with_fan}
use Rattle.fan_zone.specs.Kept.{KeepsFront, KeepsBack}
use Rattle.fan_zone.specs.SetRows.{fan_plan_of, fan_row_of, is_fan, kept_fan}
use Rattle.fan_zone.specs.Sound.{HaveOwnIds, fan_plan_id}
use Rattle.fan_zone.proofs.EqualLemmas.{id_same}
use Rattle.fan_zone.proofs.FindRows.{find_fan_at}
use Rattle.fan_zone.proofs.Renewing.{fans_more}

with_one : (id : ItemId) (name : List ℕ) (part : ItemPart) (more : List LiveFan) → is_fan part ≡ true
    → with_fan id name part more ≡ record { id = id; name = name } ∷ more
with_one id name (parts.Sensor sensor) more is = absurd (true≢false (sym is))
with_one id name parts.Fan more is = refl
with_one id name (parts.Zone setting) more is = absurd (true≢false (sym is))
with_one id name (parts.Control item) more is = absurd (true≢false (sym is))
with_one id name (parts.Mux part) more is = absurd (true≢false (sym is))
with_one id name parts.Passive more is = absurd (true≢false (sym is))

with_none : (id : ItemId) (name : List ℕ) (part : ItemPart) (more : List LiveFan) → is_fan part ≡ false → with_fan id name part more ≡ more
with_none id name (parts.Sensor sensor) more is = refl
with_none id name parts.Fan more is = absurd (true≢false is)
with_none id name (parts.Zone setting) more is = refl
with_none id name (parts.Control item) more is = refl
with_none id name (parts.Mux part) more is = refl
with_none id name parts.Passive more is = refl

pub fans_append : (refs more : List (Bor Item)) → fans (items_of (refs ++ more)) ≡ fans (items_of refs) ++ fans (items_of more)
fans_append [] more = refl
fans_append (ref ∷ refs) more =
    let one = fans (ref.now ∷ []) in
    fans_more ref.now (items_of (refs ++ more)) ∙ (ap (λ (l : List LiveFan). one ++ l) (fans_append refs more)
    ∙ (sym (append_assoc one (fans (items_of refs)) (fans (items_of more)))
    ∙ ap (λ (l : List LiveFan). l ++ fans (items_of more)) (sym (fans_more ref.now (items_of refs)))))

abbrev pub fan_of : Item → LiveFan
fan_of item = record { id = item.id; name = item.name }

-- an item behind others
behind_others : (live : List (Bor Item)) (n : ℕ) (item : Bor Item) → n < length live → item ≡ get_or live n item
    → fans (items_of (take (n + 1) live)) ≡ fans (items_of (take n live)) ++ fans (item.now ∷ [])
behind_others live n item lt at =
    ap (λ (refs : List (Bor Item)). fans (items_of refs)) (take_more live n item lt) ∙ (fans_append (take n live) (get_or live n item ∷ [])
    ∙ ap (λ (ref : Bor Item). fans (items_of (take n live)) ++ fans (ref.now ∷ [])) (sym at))

pub fan_behind : (live : List (Bor Item)) (n : ℕ) (item : Bor Item) → n < length live → item ≡ get_or live n item → is_fan item.now.part ≡ true
    → fans (items_of (take (n + 1) live)) ≡ fans (items_of (take n live)) ++ fan_of item.now ∷ []
fan_behind live n item lt at is =
    behind_others live n item lt at
    ∙ ap (λ (l : List LiveFan). fans (items_of (take n live)) ++ l) (with_one item.now.id item.now.name item.now.part [] is)

pub other_behind : (live : List (Bor Item)) (n : ℕ) (item : Bor Item) → n < length live → item ≡ get_or live n item → is_fan item.now.part ≡ false
    → fans (items_of (take (n + 1) live)) ≡ fans (items_of (take n live))
other_behind live n item lt at is =
    behind_others live n item lt at
    ∙ (ap (λ (l : List LiveFan). fans (items_of (take n live)) ++ l) (with_none item.now.id item.now.name item.now.part [] is)
    ∙ append-nil (fans (items_of (take n live))))

-- an item in front of others
before_others : (live : List (Bor Item)) (n : ℕ) (item : Bor Item) → n < length live → item ≡ get_or live n item
    → fans (items_of (drop n live)) ≡ fans (item.now ∷ items_of (drop (n + 1) live))
before_others live n item lt at =
    ap (λ (refs : List (Bor Item)). fans (items_of refs)) (drop_more live n item lt)
    ∙ ap (λ (ref : Bor Item). fans (ref.now ∷ items_of (drop (n + 1) live))) (sym at)

pub fan_before : (live : List (Bor Item)) (n : ℕ) (item : Bor Item) → n < length live → item ≡ get_or live n item → is_fan item.now.part ≡ true
    → fans (items_of (drop n live)) ≡ fan_of item.now ∷ fans (items_of (drop (n + 1) live))
fan_before live n item lt at is =
    before_others live n item lt at ∙ with_one item.now.id item.now.name item.now.part (fans (items_of (drop (n + 1) live))) is

pub other_before : (live : List (Bor Item)) (n : ℕ) (item : Bor Item) → n < length live → item ≡ get_or live n item → is_fan item.now.part ≡ false
    → fans (items_of (drop n live)) ≡ fans (items_of (drop (n + 1) live))
other_before live n item lt at is =
    before_others live n item lt at ∙ with_none item.now.id item.now.name item.now.part (fans (items_of (drop (n + 1) live))) is

-- what stands behind n elements
seam_at : {A : Type 0} (front : List A) (x : A) (back : List A) (n : ℕ) (d : A) → length front ≡ n → get_or (front ++ x ∷ back) n d ≡ x
seam_at {A} front x back n d is = subst (λ (m : ℕ). get_or (front ++ x ∷ back) m d ≡ x) is (get_or-append_seam front x back d)

seam_set : {A : Type 0} (front : List A) (x : A) (back : List A) (n : ℕ) (y : A) → length front ≡ n → set (front ++ x ∷ back) n y ≡ front ++ y ∷ back
seam_set {A} front x back n y is = subst (λ (m : ℕ). set (front ++ x ∷ back) m y ≡ front ++ y ∷ back) is (set-append_seam front x back y)

map_push : {A B : Type 0} (f : A → B) (xs : List A) (x : A) (more : List B) → map f xs ++ f x ∷ more ≡ map f (xs ++ x ∷ []) ++ more
map_push f [] x more = refl
map_push f (y ∷ xs) x more = ap (λ l. f y ∷ l) (map_push f xs x more)

-- what a fan shows where its plan is found
kept_row : (fan : LiveFan) (plans : List FanPlan) (rows : List FanRow) (n : ℕ) (plan : FanPlan) (row there : FanRow) → HaveOwnIds fan_plan_id plans
    → n < length plans → length plans ≡ length rows → id_eq (get_or plans n plan).id fan.id ≡ true → there ≡ get_or rows n row
    → kept_fan fan.name (Some there) ≡ fan_row_of plans rows fan
kept_row fan plans rows n plan row there own lt same id at =
    ap (λ (r : FanRow). kept_fan fan.name (Some r)) at ∙ ap (kept_fan fan.name) (sym (find_fan_at fan.id plans rows n plan row own lt same id))

length_kept : (kept : List LiveFan) (some : List FanPlan) → map fan_plan_id some ≡ map fan_id kept → length kept ≡ length some
length_kept kept some is = omega (arith, length-map kept fan_id, length-map some fan_plan_id, ap length is)

-- one more fan is kept at the front
pub front_more : (cs : List LiveControl) (kept more : List LiveFan) (fan : LiveFan) (n m : ℕ) (plans now next : List FanPlan)
    (rows rows_now rows_next : List FanRow) (plan : FanPlan) (row : FanRow)
    → KeepsFront cs kept n plans rows now rows_now → m ≡ n + 1 → more ≡ kept ++ fan ∷ [] → length plans ≡ length rows → HaveOwnIds fan_plan_id plans
    → n < length plans → id_eq (get_or now n plan).id fan.id ≡ true → next ≡ set now n (fan_plan_of cs fan)
    → rows_next ≡ set rows_now n (kept_fan fan.name (Some (get_or rows_now n row))) → KeepsFront cs more m plans rows next rows_next
front_more cs kept more fan n m plans now next rows rows_now rows_next plan row k one grown same own lt id is is_row =
    let make = fan_plan_of cs in
    let show = fan_row_of plans rows in
    let there = get_or plans n plan in
    let there_row = get_or rows n row in
    let few : length kept ≡ n = omega (arith, length_kept kept (take n plans) k.ids, length-take n plans, k.few) in
    let size : length (map make kept) ≡ n = omega (arith, few, length-map kept make) in
    let size_rows : length (map show kept) ≡ n = omega (arith, few, length-map kept show) in
    let shape : now ≡ map make kept ++ there ∷ drop (n + 1) plans = k.plans_are ∙ ap (λ (l : List FanPlan). map make kept ++ l) (drop_more plans n plan lt) in
    let shape_rows : rows_now ≡ map show kept ++ there_row ∷ drop (n + 1) rows =
    k.rows_are ∙ ap (λ (l : List FanRow). map show kept ++ l) (drop_more rows n row (omega (arith, lt, same))) in
    let same_plan : get_or now n plan ≡ there =
    ap (λ (l : List FanPlan). get_or l n plan) shape ∙ seam_at (map make kept) there (drop (n + 1) plans) n plan size in
    let same_row : get_or rows_now n row ≡ there_row =
    ap (λ (l : List FanRow). get_or l n row) shape_rows ∙ seam_at (map show kept) there_row (drop (n + 1) rows) n row size_rows in
    let there_id : id_eq there.id fan.id ≡ true = subst (λ (p : FanPlan). id_eq p.id fan.id ≡ true) same_plan id in
    let shown = kept_row fan plans rows n plan row (get_or rows_now n row) own lt same there_id same_row in
    record {
      few = omega (arith, lt, one);
      ids = ap (λ (l : ℕ). map fan_plan_id (take l plans)) one
          ∙ (ap (map fan_plan_id) (take_more plans n plan lt) ∙ (map-append fan_plan_id (take n plans) (there ∷ [])
          ∙ (ap (λ (l : List ItemId). l ++ there.id ∷ []) k.ids ∙ (ap (λ (first : ItemId). map fan_id kept ++ first ∷ []) (id_same there.id fan.id there_id)
          ∙ (sym (map-append fan_id kept (fan ∷ [])) ∙ ap (map fan_id) (sym grown))))));
      plans_are = is ∙ (ap (λ (l : List FanPlan). set l n (make fan)) shape
          ∙ (seam_set (map make kept) there (drop (n + 1) plans) n (make fan) size ∙ (map_push make kept fan (drop (n + 1) plans)
          ∙ (ap (λ (l : List LiveFan). map make l ++ drop (n + 1) plans) (sym grown) ∙ ap (λ (l : ℕ). map make more ++ drop l plans) (sym one)))));
      rows_are = is_row ∙ (ap (set rows_now n) shown ∙ (ap (λ (l : List FanRow). set l n (show fan)) shape_rows
          ∙ (seam_set (map show kept) there_row (drop (n + 1) rows) n (show fan) size_rows ∙ (map_push show kept fan (drop (n + 1) rows)
          ∙ (ap (λ (l : List LiveFan). map show l ++ drop (n + 1) rows) (sym grown) ∙ ap (λ (l : ℕ). map show more ++ drop l rows) (sym one))))));
    }

-- one more fan is kept at the back
pub back_more : (cs : List LiveControl) (kept more : List LiveFan) (fan : LiveFan) (n last : ℕ) (plans now next : List FanPlan)
    (rows rows_now rows_next : List FanRow) (plan : FanPlan) (row : FanRow)
    → KeepsBack cs kept last plans rows now rows_now → n + 1 ≡ last → more ≡ fan ∷ kept → length plans ≡ length rows → HaveOwnIds fan_plan_id plans
    → id_eq (get_or now n plan).id fan.id ≡ true → next ≡ set now n (fan_plan_of cs fan)
    → rows_next ≡ set rows_now n (kept_fan fan.name (Some (get_or rows_now n row))) → KeepsBack cs more n plans rows next rows_next
back_more cs kept more fan n last plans now next rows rows_now rows_next plan row k one grown same own id is is_row =
    let make = fan_plan_of cs in
    let show = fan_row_of plans rows in
    let there = get_or plans n plan in
    let there_row = get_or rows n row in
    let lt : n < length plans = omega (arith, k.few, one) in
    let lt_rows : n < length rows = omega (arith, lt, same) in
    let size : length (take n plans) ≡ n = omega (arith, length-take n plans, lt) in
    let size_rows : length (take n rows) ≡ n = omega (arith, length-take n rows, lt_rows) in
    let shape : now ≡ take n plans ++ there ∷ map make kept =
    k.plans_are ∙ (ap (λ (l : ℕ). take l plans ++ map make kept) (sym one)
    ∙ (ap (λ (l : List FanPlan). l ++ map make kept) (take_more plans n plan lt) ∙ append_assoc (take n plans) (there ∷ []) (map make kept))) in
    let shape_rows : rows_now ≡ take n rows ++ there_row ∷ map show kept =
    k.rows_are ∙ (ap (λ (l : ℕ). take l rows ++ map show kept) (sym one)
    ∙ (ap (λ (l : List FanRow). l ++ map show kept) (take_more rows n row lt_rows) ∙ append_assoc (take n rows) (there_row ∷ []) (map show kept))) in
    let same_plan : get_or now n plan ≡ there =
    ap (λ (l : List FanPlan). get_or l n plan) shape ∙ seam_at (take n plans) there (map make kept) n plan size in
    let same_row : get_or rows_now n row ≡ there_row =
    ap (λ (l : List FanRow). get_or l n row) shape_rows ∙ seam_at (take n rows) there_row (map show kept) n row size_rows in
    let there_id : id_eq there.id fan.id ≡ true = subst (λ (p : FanPlan). id_eq p.id fan.id ≡ true) same_plan id in
    let shown = kept_row fan plans rows n plan row (get_or rows_now n row) own lt same there_id same_row in
    record {
      few = omega (arith, lt);
      ids = ap (map fan_plan_id) (drop_more plans n plan lt)
          ∙ (ap (λ (l : ℕ). there.id ∷ map fan_plan_id (drop l plans)) one ∙ (ap (λ (l : List ItemId). there.id ∷ l) k.ids
          ∙ (ap (λ (first : ItemId). first ∷ map fan_id kept) (id_same there.id fan.id there_id) ∙ ap (map fan_id) (sym grown))));
      plans_are = is ∙ (ap (λ (l : List FanPlan). set l n (make fan)) shape
          ∙ (seam_set (take n plans) there (map make kept) n (make fan) size ∙ ap (λ (l : List LiveFan). take n plans ++ map make l) (sym grown)));
      rows_are = is_row ∙ (ap (set rows_now n) shown ∙ (ap (λ (l : List FanRow). set l n (show fan)) shape_rows
          ∙ (seam_set (take n rows) there_row (map show kept) n (show fan) size_rows
          ∙ ap (λ (l : List LiveFan). take n rows ++ map show l) (sym grown))));
    }

-- an item that is no fan
pub front_same : (cs : List LiveControl) (kept more : List LiveFan) (n m : ℕ) (plans now next : List FanPlan) (rows rows_now rows_next : List FanRow)
    → KeepsFront cs kept n plans rows now rows_now → m ≡ n → more ≡ kept → next ≡ now → rows_next ≡ rows_now
    → KeepsFront cs more m plans rows next rows_next
front_same cs kept more n m plans now next rows rows_now rows_next k number grown is is_rows =
    let all : KeepsFront cs more m plans rows now rows_now =
    subst (λ (l : List LiveFan). KeepsFront cs l m plans rows now rows_now) (sym grown)
    (subst (λ (l : ℕ). KeepsFront cs kept l plans rows now rows_now) (sym number) k) in
    subst (λ (l : List FanRow). KeepsFront cs more m plans rows next l) (sym is_rows)
    (subst (λ (l : List FanPlan). KeepsFront cs more m plans rows l rows_now) (sym is) all)

pub back_same : (cs : List LiveControl) (kept more : List LiveFan) (n m : ℕ) (plans now next : List FanPlan) (rows rows_now rows_next : List FanRow)
    → KeepsBack cs kept n plans rows now rows_now → m ≡ n → more ≡ kept → next ≡ now → rows_next ≡ rows_now
    → KeepsBack cs more m plans rows next rows_next
back_same cs kept more n m plans now next rows rows_now rows_next k number grown is is_rows =
    let all : KeepsBack cs more m plans rows now rows_now =
    subst (λ (l : List LiveFan). KeepsBack cs l m plans rows now rows_now) (sym grown)
    (subst (λ (l : ℕ). KeepsBack cs kept l plans rows now rows_now) (sym number) k) in
    subst (λ (l : List FanRow). KeepsBack cs more m plans rows next l) (sym is_rows)
    (subst (λ (l : List FanPlan). KeepsBack cs more m plans rows l rows_now) (sym is) all)
