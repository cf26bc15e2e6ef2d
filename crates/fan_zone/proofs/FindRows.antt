-- A search for a row by the id of its plan, one row on; and where the ids differ, any one with the id is the first.
use Rattle.std.proofs.Common.{◌≡◌, ℕ, zero, suc, ◌+◌, ◌<◌, Bool, true, false, if◌then◌else◌, List, [], ◌∷◌, length, map, drop}
use Rattle.std.proofs.Common.{get_or, Some, refl, ap, sym, ◌∙◌, subst, arith}
use Rattle.std.specs.List.{AllByRecursion, IsDistinct}
use Rattle.std.proofs.lemmas.Bool.{true≢false}
use Rattle.std.proofs.lemmas.List.{drop_more}
use Rattle.std.proofs.lemmas.Map.Keys.{IsDistinct-head, IsDistinct-tail}
use Rattle.cfg_json.specs.declared.item.ItemId.{ItemId}
use Rattle.fan_zone.specs.declared.rows.ZonePlan.{ZonePlan}
use Rattle.fan_zone.specs.declared.rows.ZoneRow.{ZoneRow}
use Rattle.fan_zone.specs.declared.rows.FanPlan.{FanPlan}
use Rattle.fan_zone.specs.declared.rows.FanRow.{FanRow}
use Rattle.fan_zone.specs.declared.held.Held.{Held}
use Rattle.fan_zone.specs.Live.{id_eq}
use Rattle.fan_zone.specs.Sets.{find_held}
use Rattle.fan_zone.specs.Sound.{HaveOwnIds, held_id, zone_plan_id, fan_plan_id}
use Rattle.fan_zone.proofs.EqualLemmas.{id_same, id_self}
use Rattle.fan_zone.specs.SetRows.{find_zone, find_fan}

nothing : IsDistinct id_eq []
unfolding IsDistinct
nothing = tt

pub find_zone_more : (id : ItemId) (plans : List ZonePlan) (rows : List ZoneRow) (n : ℕ) (d : ZonePlan) (e : ZoneRow) → n < length plans → length plans
    ≡ length rows → id_eq (get_or plans n d).id id ≡ false
    → find_zone id (drop (n + 1) plans) (drop (n + 1) rows) ≡ find_zone id (drop n plans) (drop n rows)
find_zone_more id plans rows n d e lt same not =
    let p : drop n plans ≡ get_or plans n d ∷ drop (n + 1) plans = drop_more plans n d lt in
    let r : drop n rows ≡ get_or rows n e ∷ drop (n + 1) rows = drop_more rows n e (omega (arith, same)) in
    sym (ap (λ (l : List ZonePlan). find_zone id l (drop n rows)) p ∙ (ap (find_zone id (get_or plans n d ∷ drop (n + 1) plans)) r
    ∙ ap (λ (b : Bool). if b then Some (get_or rows n e) else find_zone id (drop (n + 1) plans) (drop (n + 1) rows)) not))

pub find_fan_more : (id : ItemId) (plans : List FanPlan) (rows : List FanRow) (n : ℕ) (d : FanPlan) (e : FanRow) → n < length plans → length plans
    ≡ length rows → id_eq (get_or plans n d).id id ≡ false
    → find_fan id (drop (n + 1) plans) (drop (n + 1) rows) ≡ find_fan id (drop n plans) (drop n rows)
find_fan_more id plans rows n d e lt same not =
    let p : drop n plans ≡ get_or plans n d ∷ drop (n + 1) plans = drop_more plans n d lt in
    let r : drop n rows ≡ get_or rows n e ∷ drop (n + 1) rows = drop_more rows n e (omega (arith, same)) in
    sym (ap (λ (l : List FanPlan). find_fan id l (drop n rows)) p ∙ (ap (find_fan id (get_or plans n d ∷ drop (n + 1) plans)) r
    ∙ ap (λ (b : Bool). if b then Some (get_or rows n e) else find_fan id (drop (n + 1) plans) (drop (n + 1) rows)) not))

-- nothing has its own ids
pub none_alike : {A : Type 0} (id_in : A → ItemId) (list : List A) → list ≡ [] → HaveOwnIds id_in list
none_alike {A} id_in list is = subst (λ (some : List A). HaveOwnIds id_in some) (sym is) nothing

each_behind : {A : Type 0} (id_in : A → ItemId) (id : ItemId) (xs : List A) (n : ℕ) (d : A)
    → AllByRecursion (λ (other : ItemId). id_eq id other ≡ false) (map id_in xs) → n < length xs → id_eq id (id_in (get_or xs n d)) ≡ false
each_behind id_in id [] n d all lt = absurd (omega (arith, lt))
each_behind id_in id (x ∷ xs) zero d (one, more) lt = one
each_behind id_in id (x ∷ xs) (suc n) d (one, more) lt = each_behind id_in id xs n d more (omega (arith, lt))

-- where one behind the first has the id, the first has another
not_first : {A : Type 0} (id_in : A → ItemId) (id : ItemId) (x : A) (xs : List A) (n : ℕ) (d : A) → HaveOwnIds id_in (x ∷ xs) → n < length xs
    → id_eq (id_in (get_or xs n d)) id ≡ true → id_eq (id_in x) id ≡ false
not_first id_in id x xs n d own lt is = of (id_eq (id_in x) id) refl
  where
    other : ItemId
    other = id_in (get_or xs n d)

    differ : id_eq (id_in x) other ≡ false
    differ = each_behind id_in (id_in x) xs n d (IsDistinct-head id_eq (id_in x) (map id_in xs) own) lt

    of : (b : Bool) → id_eq (id_in x) id ≡ b → b ≡ false
    of true also =
        let one : id_in x ≡ other = id_same (id_in x) id also ∙ sym (id_same other id is) in
        absurd (true≢false (sym (subst (λ (each : ItemId). id_eq (id_in x) each ≡ true) one (id_self (id_in x))) ∙ differ))
    of false also = refl

pub find_zone_at : (id : ItemId) (plans : List ZonePlan) (rows : List ZoneRow) (n : ℕ) (d : ZonePlan) (e : ZoneRow) → HaveOwnIds zone_plan_id plans
    → n < length plans → length plans ≡ length rows → id_eq (get_or plans n d).id id ≡ true → find_zone id plans rows ≡ Some (get_or rows n e)
find_zone_at id [] rows n d e own lt same is = absurd (omega (arith, lt))
find_zone_at id (plan ∷ plans) [] n d e own lt same is = absurd (omega (arith, same))
find_zone_at id (plan ∷ plans) (row ∷ rows) zero d e own lt same is = ap (λ (b : Bool). if b then Some row else find_zone id plans rows) is
find_zone_at id (plan ∷ plans) (row ∷ rows) (suc n) d e own lt same is =
    ap (λ (b : Bool). if b then Some row else find_zone id plans rows) (not_first zone_plan_id id plan plans n d own (omega (arith, lt)) is)
    ∙ find_zone_at id plans rows n d e (IsDistinct-tail id_eq plan.id (map zone_plan_id plans) own) (omega (arith, lt)) (omega (arith, same)) is

pub find_fan_at : (id : ItemId) (plans : List FanPlan) (rows : List FanRow) (n : ℕ) (d : FanPlan) (e : FanRow) → HaveOwnIds fan_plan_id plans
    → n < length plans → length plans ≡ length rows → id_eq (get_or plans n d).id id ≡ true → find_fan id plans rows ≡ Some (get_or rows n e)
find_fan_at id [] rows n d e own lt same is = absurd (omega (arith, lt))
find_fan_at id (plan ∷ plans) [] n d e own lt same is = absurd (omega (arith, same))
find_fan_at id (plan ∷ plans) (row ∷ rows) zero d e own lt same is = ap (λ (b : Bool). if b then Some row else find_fan id plans rows) is
find_fan_at id (plan ∷ plans) (row ∷ rows) (suc n) d e own lt same is =
    ap (λ (b : Bool). if b then Some row else find_fan id plans rows) (not_first fan_plan_id id plan plans n d own (omega (arith, lt)) is)
    ∙ find_fan_at id plans rows n d e (IsDistinct-tail id_eq plan.id (map fan_plan_id plans) own) (omega (arith, lt)) (omega (arith, same)) is

pub find_held_at : (id : ItemId) (old : List Held) (n : ℕ) (d : Held) → HaveOwnIds held_id old → n < length old
    → id_eq (get_or old n d).id id ≡ true → find_held id old ≡ Some (get_or old n d)
find_held_at id [] n d own lt is = absurd (omega (arith, lt))
find_held_at id (held ∷ old) zero d own lt is = ap (λ (b : Bool). if b then Some held else find_held id old) is
find_held_at id (held ∷ old) (suc n) d own lt is =
    ap (λ (b : Bool). if b then Some held else find_held id old) (not_first held_id id held old n d own (omega (arith, lt)) is)
    ∙ find_held_at id old n d (IsDistinct-tail id_eq held.id (map held_id old) own) (omega (arith, lt)) is
