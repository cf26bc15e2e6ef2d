-- Where live fans have own ids, a fan that stands between those that are kept has its plan between theirs, if it has one.
use Rattle.std.proofs.Common.{◌≡◌, ℕ, ◌+◌, ◌-◌, ◌≤◌, Bool, true, false, if◌then◌else◌, List, [], ◌∷◌, ◌++◌, length, map, take, drop, get_or, Some, None}
use Rattle.std.proofs.Common.{Option, refl, ap, sym, ◌∙◌, subst, arith, length-append, length-drop, length-take}
use Rattle.std.specs.List.{AllByRecursion, slice_range}
use Rattle.std.proofs.lemmas.List.{append-nil, length-map, map-append, take-append-drop, take_all, take_at, drop_all, drop_at, drop-drop}
use Rattle.std.proofs.lemmas.Bool.{true≢false}
use Rattle.std.proofs.lemmas.Map.Keys.{IsDistinct-cons, IsDistinct-head, IsDistinct-tail}
use Rattle.std.specs.Borrow.{Bor}
use borrow.Rule.Slice.PartMut.{put_mid}
use Rattle.cfg_json.specs.declared.item.Item.{Item}
use Rattle.cfg_json.specs.declared.item.ItemId.{ItemId}
use Rattle.fan_zone.specs.declared.rows.FanPlan.{FanPlan}
use Rattle.fan_zone.specs.declared.rows.FanRow.{FanRow}
use Rattle.fan_zone.specs.Kept.{KeepsFront, KeepsBack, KeepsEnds}
use Rattle.fan_zone.specs.Live.{LiveControl, LiveFan, fan_id, fans, id_eq, items_of}
use Rattle.fan_zone.specs.Sound.{HaveOwnIds, fan_plan_id}
use Rattle.fan_zone.specs.SetRows.{fan_plan_of, fan_row_of, find_fan, kept_fan}
use Rattle.fan_zone.proofs.EqualLemmas.{id_same, id_self}
use Rattle.fan_zone.proofs.FindRows.{none_alike}
use Rattle.fan_zone.proofs.KeptFans.{fans_append}

abbrev AllOthers : ItemId → List ItemId → Type 0
AllOthers id ids = AllByRecursion (λ (other : ItemId). id_eq id other ≡ false) ids

others_front : {A : Type 0} (id_in : A → ItemId) (id : ItemId) (front back : List A) → AllOthers id (map id_in (front ++ back))
    → AllOthers id (map id_in front)
others_front id_in id [] back all = tt
others_front id_in id (x ∷ front) back (one, more) = (one, others_front id_in id front back more)

others_back : {A : Type 0} (id_in : A → ItemId) (id : ItemId) (front back : List A) → AllOthers id (map id_in (front ++ back))
    → AllOthers id (map id_in back)
others_back id_in id [] back all = all
others_back id_in id (x ∷ front) back (one, more) = others_back id_in id front back more

pub own_front : {A : Type 0} (id_in : A → ItemId) (front back : List A) → HaveOwnIds id_in (front ++ back) → HaveOwnIds id_in front
own_front id_in [] back own = none_alike id_in [] refl
own_front id_in (x ∷ front) back own =
    IsDistinct-cons id_eq (id_in x) (map id_in front)
    (others_front id_in (id_in x) front back (IsDistinct-head id_eq (id_in x) (map id_in (front ++ back)) own))
    (own_front id_in front back (IsDistinct-tail id_eq (id_in x) (map id_in (front ++ back)) own))

pub own_back : {A : Type 0} (id_in : A → ItemId) (front back : List A) → HaveOwnIds id_in (front ++ back) → HaveOwnIds id_in back
own_back id_in [] back own = own
own_back id_in (x ∷ front) back own = own_back id_in front back (IsDistinct-tail id_eq (id_in x) (map id_in (front ++ back)) own)

-- a first plan that none of the fans has
first_cut : (plan : FanPlan) (row : FanRow) (plans : List FanPlan) (rows : List FanRow) (fans : List LiveFan) → AllOthers plan.id (map fan_id fans)
    → map (fan_row_of (plan ∷ plans) (row ∷ rows)) fans ≡ map (fan_row_of plans rows) fans
first_cut plan row plans rows [] all = refl
first_cut plan row plans rows (fan ∷ fans) (one, more) =
    ap (λ (b : Bool). kept_fan fan.name (if b then Some row else find_fan fan.id plans rows) ∷ map (fan_row_of (plan ∷ plans) (row ∷ rows)) fans) one
    ∙ ap (λ (l : List FanRow). fan_row_of plans rows fan ∷ l) (first_cut plan row plans rows fans more)

-- plans at the front that are those of other fans
pub front_cut : (first plans : List FanPlan) (first_rows rows : List FanRow) (front fans : List LiveFan) → HaveOwnIds fan_id (front ++ fans)
    → map fan_plan_id first ≡ map fan_id front → length first ≡ length first_rows
    → map (fan_row_of (first ++ plans) (first_rows ++ rows)) fans ≡ map (fan_row_of plans rows) fans
front_cut [] plans [] rows front fans own ids same = refl
front_cut [] plans (row ∷ first_rows) rows front fans own ids same = absurd (omega (arith, same))
front_cut (plan ∷ first) plans [] rows front fans own ids same = absurd (omega (arith, same))
front_cut (plan ∷ first) plans (row ∷ first_rows) rows [] fans own ids same = absurd (cc)
front_cut (plan ∷ first) plans (row ∷ first_rows) rows (fan ∷ front) fans own ids same =
    let here : fan.id ≡ plan.id = ap (λ (l : List ItemId). get_or l 0 plan.id) (sym ids) in
    let apart = others_back fan_id fan.id front fans (IsDistinct-head id_eq fan.id (map fan_id (front ++ fans)) own) in
    first_cut plan row (first ++ plans) (first_rows ++ rows) fans (subst (λ (id : ItemId). AllOthers id (map fan_id fans)) here apart)
    ∙ front_cut first plans first_rows rows front fans (IsDistinct-tail id_eq fan.id (map fan_id (front ++ fans)) own)
    (ap (drop 1) ids) (omega (arith, same))

other_way : (id other : ItemId) → id_eq id other ≡ false → id_eq other id ≡ false
other_way id other not = of (id_eq other id) refl
  where
    of : (b : Bool) → id_eq other id ≡ b → b ≡ false
    of true also =
        absurd (true≢false (sym (id_self id) ∙ (ap (id_eq id) (sym (id_same other id also)) ∙ not)))
    of false also = refl

-- none is found where none has the id
none_found : (id : ItemId) (plans : List FanPlan) (rows : List FanRow) → AllOthers id (map fan_plan_id plans) → find_fan id plans rows ≡ None
none_found id [] rows all = refl
none_found id (plan ∷ plans) [] all = refl
none_found id (plan ∷ plans) (row ∷ rows) (one, more) =
    ap (λ (b : Bool). if b then Some row else find_fan id plans rows) (other_way id plan.id one) ∙ none_found id plans rows more

found_front : (id : ItemId) (plans last : List FanPlan) (rows last_rows : List FanRow) → find_fan id last last_rows ≡ None → length plans ≡ length rows
    → find_fan id (plans ++ last) (rows ++ last_rows) ≡ find_fan id plans rows
found_front id [] last [] last_rows none same = none
found_front id [] last (row ∷ rows) last_rows none same = absurd (omega (arith, same))
found_front id (plan ∷ plans) last [] last_rows none same = absurd (omega (arith, same))
found_front id (plan ∷ plans) last (row ∷ rows) last_rows none same =
    ap (λ (o : Option FanRow). if id_eq plan.id id then Some row else o) (found_front id plans last rows last_rows none (omega (arith, same)))

-- plans at the back that are those of other fans
pub back_cut : (plans last : List FanPlan) (rows last_rows : List FanRow) (fans back : List LiveFan) → HaveOwnIds fan_id (fans ++ back)
    → map fan_plan_id last ≡ map fan_id back → length plans ≡ length rows
    → map (fan_row_of (plans ++ last) (rows ++ last_rows)) fans ≡ map (fan_row_of plans rows) fans
back_cut plans last rows last_rows [] back own ids same = refl
back_cut plans last rows last_rows (fan ∷ fans) back own ids same =
    let apart : AllOthers fan.id (map fan_plan_id last) = subst (AllOthers fan.id) (sym ids)
    (others_back fan_id fan.id fans back (IsDistinct-head id_eq fan.id (map fan_id (fans ++ back)) own)) in
    let found = found_front fan.id plans last rows last_rows (none_found fan.id last last_rows apart) same in
    let rest = back_cut plans last rows last_rows fans back (IsDistinct-tail id_eq fan.id (map fan_id (fans ++ back)) own) ids same in
    ap (λ (o : Option FanRow). kept_fan fan.name o ∷ map (fan_row_of (plans ++ last) (rows ++ last_rows)) fans) found
    ∙ ap (λ (l : List FanRow). fan_row_of plans rows fan ∷ l) rest

-- two lists in two ways
part_front : {A : Type 0} (one other back last : List A) → length one ≡ length other → one ++ back ≡ other ++ last → one ≡ other
part_front one other back last size is = sym (take_at one back (length one) refl) ∙ (ap (take (length one)) is ∙ take_at other last (length one) (sym size))

part_back : {A : Type 0} (one other back last : List A) → length one ≡ length other → one ++ back ≡ other ++ last → back ≡ last
part_back one other back last size is = sym (drop_at one back (length one) refl) ∙ (ap (drop (length one)) is ∙ drop_at other last (length one) (sym size))

-- what n elements, n more and the others are
ends_front : {A : Type 0} (first some last : List A) (n : ℕ) → length first ≡ n → take n (first ++ (some ++ last)) ≡ first
ends_front first some last n size = take_at first (some ++ last) n size

ends_back : {A : Type 0} (first some last : List A) (n m : ℕ) → length first ≡ n → length some ≡ m → drop (n + m) (first ++ (some ++ last)) ≡ last
ends_back first some last n m size more =
    sym (drop-drop m n (first ++ (some ++ last))) ∙ (ap (drop m) (drop_at first (some ++ last) n size) ∙ drop_at some last m more)

ends_between : {A : Type 0} (first some last : List A) (n m : ℕ) → length first ≡ n → length some ≡ m
    → slice_range (first ++ (some ++ last)) n (n + m) ≡ some
ends_between first some last n m size more =
    let count : n + m - n ≡ m = omega arith in
    ap (take (n + m - n)) (drop_at first (some ++ last) n size) ∙ (ap (λ (l : ℕ). take l (some ++ last)) count ∙ take_at some last m more)

length_ids : (kept : List LiveFan) (some : List FanPlan) → map fan_plan_id some ≡ map fan_id kept → length kept ≡ length some
length_ids kept some is = omega (arith, length-map kept fan_id, length-map some fan_plan_id, ap length is)

-- what is not at the front stays
pub kept_rest : (cs : List LiveControl) (front : List LiveFan) (n : ℕ) (plans now : List FanPlan) (rows rows_now : List FanRow)
    → KeepsFront cs front n plans rows now rows_now → drop n now ≡ drop n plans
kept_rest cs front n plans now rows rows_now f =
    let make = fan_plan_of cs in
    let size : length (map make front) ≡ n = omega (arith, length_ids front (take n plans) f.ids, length-take n plans, f.few, length-map front make) in
    ap (drop n) f.plans_are ∙ drop_at (map make front) (drop n plans) n size

-- the front, and then the back of the others
pub ends_kept : (cs : List LiveControl) (front middle back : List LiveFan) (n m : ℕ) (plans now rest next : List FanPlan)
    (rows rows_now rows_rest rows_next : List FanRow) → HaveOwnIds fan_id (front ++ (middle ++ back)) → length plans ≡ length rows
    → HaveOwnIds fan_plan_id plans → KeepsFront cs front n plans rows now rows_now → KeepsBack cs back m (drop n now) (drop n rows_now) rest rows_rest
    → next ≡ take n now ++ rest → rows_next ≡ take n rows_now ++ rows_rest → KeepsEnds cs front middle back n (n + m) plans rows next rows_next
ends_kept cs front middle back n m plans now rest next rows rows_now rows_rest rows_next own same ids f b is is_rows =
    let make = fan_plan_of cs in
    let show = fan_row_of plans rows in
    let others = drop n plans in
    let other_rows = drop n rows in
    let show_rest = fan_row_of others other_rows in
    let count : length front ≡ n = omega (arith, length_ids front (take n plans) f.ids, length-take n plans, f.few) in
    let size : length (map make front) ≡ n = omega (arith, count, length-map front make) in
    let size_rows : length (map show front) ≡ n = omega (arith, count, length-map front show) in
    let now_front : take n now ≡ map make front = ap (take n) f.plans_are ∙ take_at (map make front) others n size in
    let now_rest : drop n now ≡ others = kept_rest cs front n plans now rows rows_now f in
    let rows_front : take n rows_now ≡ map show front = ap (take n) f.rows_are ∙ take_at (map show front) other_rows n size_rows in
    let rows_others : drop n rows_now ≡ other_rows = ap (drop n) f.rows_are ∙ drop_at (map show front) other_rows n size_rows in
    let b : KeepsBack cs back m others other_rows rest rows_rest =
    subst (λ (l : List FanRow). KeepsBack cs back m others l rest rows_rest) rows_others
    (subst (λ (l : List FanPlan). KeepsBack cs back m l (drop n rows_now) rest rows_rest) now_rest b) in
    let some = take m others in
    let some_rows = take m other_rows in
    let same_others : length others ≡ length other_rows = omega (arith, length-drop n plans, length-drop n rows, same) in
    let some_size : length some ≡ m = omega (arith, length-take m others, b.few) in
    let some_rows_size : length some_rows ≡ m = omega (arith, length-take m other_rows, b.few, same_others) in
    let parts : others ≡ some ++ drop m others = sym (take-append-drop m others) in
    let parts_rows : other_rows ≡ some_rows ++ drop m other_rows = sym (take-append-drop m other_rows) in
    let own_others : HaveOwnIds fan_plan_id others = own_back fan_plan_id (take n plans) others
    (subst (λ (l : List FanPlan). HaveOwnIds fan_plan_id l) (sym (take-append-drop n plans)) ids) in
    let own_some : HaveOwnIds fan_plan_id some = own_front fan_plan_id some (drop m others)
    (subst (λ (l : List FanPlan). HaveOwnIds fan_plan_id l) parts own_others) in
    let shape : next ≡ map make front ++ (some ++ map make back) = is ∙ (ap (λ (l : List FanPlan). l ++ rest) now_front
    ∙ ap (λ (l : List FanPlan). map make front ++ l) b.plans_are) in
    let shape_rows : rows_next ≡ map show front ++ (some_rows ++ map show_rest back) = is_rows ∙ (ap (λ (l : List FanRow). l ++ rows_rest) rows_front
    ∙ ap (λ (l : List FanRow). map show front ++ l) b.rows_are) in
    let between_plans : slice_range next n (n + m) ≡ some = ap (λ (l : List FanPlan). slice_range l n (n + m)) shape
    ∙ ends_between (map make front) some (map make back) n m size some_size in
    let between_rows : slice_range rows_next n (n + m) ≡ some_rows = ap (λ (l : List FanRow). slice_range l n (n + m)) shape_rows
    ∙ ends_between (map show front) some_rows (map show_rest back) n m size_rows some_rows_size in
    let whole : map show (middle ++ back) ≡ map show_rest (middle ++ back) =
    ap (λ (l : List FanPlan). map (fan_row_of l rows) (middle ++ back)) (sym (take-append-drop n plans))
    ∙ (ap (λ (l : List FanRow). map (fan_row_of (take n plans ++ others) l) (middle ++ back)) (sym (take-append-drop n rows))
    ∙ front_cut (take n plans) others (take n rows) other_rows front (middle ++ back) own f.ids
    (omega (arith, length-take n plans, length-take n rows, same))) in
    let halves : map show middle ++ map show back ≡ map show_rest middle ++ map show_rest back =
    sym (map-append show middle back) ∙ (whole ∙ map-append show_rest middle back) in
    let sizes : length (map show middle) ≡ length (map show_rest middle) = omega (arith, length-map middle show, length-map middle show_rest) in
    let same_middle : map show middle ≡ map show_rest middle =
    part_front (map show middle) (map show_rest middle) (map show back) (map show_rest back) sizes halves in
    let same_back : map show back ≡ map show_rest back =
    part_back (map show middle) (map show_rest middle) (map show back) (map show_rest back) sizes halves in
    let cut : map show_rest middle ≡ map (fan_row_of some some_rows) middle =
    ap (λ (l : List FanPlan). map (fan_row_of l other_rows) middle) parts
    ∙ (ap (λ (l : List FanRow). map (fan_row_of (some ++ drop m others) l) middle) parts_rows
    ∙ back_cut some (drop m others) some_rows (drop m other_rows) middle back (own_back fan_id front (middle ++ back) own) b.ids
    (omega (arith, some_size, some_rows_size))) in
    let long : length next ≡ n + (m + length back) = ap length shape ∙ omega (
      arith,
      length-append (map make front) (some ++ map make back),
      length-append some (map make back),
      size,
      some_size,
      length-map back make,
    ) in
    let long_rows : length rows_next ≡ n + (m + length back) = ap length shape_rows ∙ omega (
      arith,
      length-append (map show front) (some_rows ++ map show_rest back),
      length-append some_rows (map show_rest back),
      size_rows,
      some_rows_size,
      length-map back show_rest,
    ) in
    record {
      order = omega arith;
      few = omega (arith, long);
      same = omega (arith, long, long_rows);
      ids = subst (λ (l : List FanPlan). HaveOwnIds fan_plan_id l) (sym between_plans) own_some;
      front_plans = ap (take n) shape ∙ ends_front (map make front) some (map make back) n size;
      front_rows = ap (take n) shape_rows ∙ ends_front (map show front) some_rows (map show_rest back) n size_rows;
      back_plans = ap (drop (n + m)) shape ∙ ends_back (map make front) some (map make back) n m size some_size;
      back_rows = ap (drop (n + m)) shape_rows ∙ (ends_back (map show front) some_rows (map show_rest back) n m size_rows some_rows_size ∙ sym same_back);
      between = ap (λ (l : List FanPlan). map (fan_row_of l (slice_range rows_next n (n + m))) middle) between_plans
          ∙ (ap (λ (l : List FanRow). map (fan_row_of some l) middle) between_rows ∙ (sym cut ∙ sym same_middle));
    }

-- all but the first n elements
pub all_behind : {A : Type 0} (n : ℕ) (list : List A) → take (length list - n) (drop n list) ≡ drop n list
all_behind n list = take_all (length list - n) (drop n list) (omega (arith, length-drop n list))

-- a list that is written whole
pub written : {A : Type 0} (n : ℕ) (next list : List A) → length next ≡ n → take n (next ++ drop (length next) list) ≡ next
written n next list size = take_at next (drop (length next) list) n size

-- a list whose elements from the n-th on are written
pub put_rest : {A : Type 0} (n : ℕ) (list rest : List A) → put_mid n (length list - n) list rest ≡ take n list ++ rest
put_rest {A} n list rest =
    ap (λ (l : List A). take n list ++ (rest ++ l)) (drop_all (length list - n) (drop n list) (omega (arith, length-drop n list)))
    ∙ ap (λ (l : List A). take n list ++ l) (append-nil rest)

pub own_rest : (cs : List LiveControl) (front : List LiveFan) (n : ℕ) (plans now : List FanPlan) (rows rows_now : List FanRow)
    → KeepsFront cs front n plans rows now rows_now → HaveOwnIds fan_plan_id plans → HaveOwnIds fan_plan_id (take (length now - n) (drop n now))
own_rest cs front n plans now rows rows_now f own =
    subst (λ (l : List FanPlan). HaveOwnIds fan_plan_id l) (sym (all_behind n now ∙ kept_rest cs front n plans now rows rows_now f))
    (own_back fan_plan_id (take n plans) (drop n plans) (subst (λ (l : List FanPlan). HaveOwnIds fan_plan_id l) (sym (take-append-drop n plans)) own))

-- the fans of three parts of the items
pub live_parts : (live : List (Bor Item)) (start end : ℕ) → start ≤ end → fans (items_of live)
    ≡ fans (items_of (take start live)) ++ (fans (items_of (slice_range live start end)) ++ fans (items_of (drop end live)))
live_parts live start end le =
    let rest = drop start live in
    let front = fans (items_of (take start live)) in
    let middle = take (end - start) rest in
    let count : start + (end - start) ≡ end = omega arith in
    ap (λ (l : List (Bor Item)). fans (items_of l)) (sym (take-append-drop start live)) ∙ (fans_append (take start live) rest
    ∙ ap (λ (l : List LiveFan). front ++ l)
    (ap (λ (l : List (Bor Item)). fans (items_of l)) (sym (take-append-drop (end - start) rest)) ∙ (fans_append middle (drop (end - start) rest)
    ∙ ap (λ (l : List (Bor Item)). fans (items_of middle) ++ fans (items_of l))
    (drop-drop (end - start) start live ∙ ap (λ (n : ℕ). drop n live) count))))

pub count_parts : (live : List (Bor Item)) (start end : ℕ) → start ≤ end → length (fans (items_of live))
    ≡ length (fans (items_of (take start live))) + (length (fans (items_of (slice_range live start end))) + length (fans (items_of (drop end live))))
count_parts live start end le =
    let front = fans (items_of (take start live)) in
    let middle = fans (items_of (slice_range live start end)) in
    let back = fans (items_of (drop end live)) in
    ap length (live_parts live start end le) ∙ (length-append front (middle ++ back) ∙ ap (λ (n : ℕ). length front + n) (length-append middle back))

-- where new elements stand between those that are kept, there is one for each fan, and there is room for all
pub renewed : {A : Type 0} (make : LiveFan → A) (live : List (Bor Item)) (start end n m : ℕ) (kept between final : List A) → start ≤ end
    → take n kept ≡ map make (fans (items_of (take start live))) → between ≡ map make (fans (items_of (slice_range live start end)))
    → drop m kept ≡ map make (fans (items_of (drop end live))) → final ≡ take n kept ++ (between ++ drop m kept) → final ≡ map make (fans (items_of live))
renewed {A} make live start end n m kept between final le first some last is =
    let front = fans (items_of (take start live)) in
    let middle = fans (items_of (slice_range live start end)) in
    let back = fans (items_of (drop end live)) in
    is ∙ (ap (λ (l : List A). l ++ (between ++ drop m kept)) first ∙ (ap (λ (l : List A). map make front ++ (l ++ drop m kept)) some
    ∙ (ap (λ (l : List A). map make front ++ (map make middle ++ l)) last ∙ (ap (λ (l : List A). map make front ++ l) (sym (map-append make middle back))
    ∙ (sym (map-append make front (middle ++ back)) ∙ ap (map make) (sym (live_parts live start end le)))))))

pub room_between : {A : Type 0} (make : LiveFan → A) (live : List (Bor Item)) (start end n m room : ℕ) (kept between : List A) → start ≤ end → n ≤ m
    → m ≤ length kept → take n kept ≡ map make (fans (items_of (take start live))) → length between ≡ length (fans (items_of (slice_range live start end)))
    → drop m kept ≡ map make (fans (items_of (drop end live))) → length (fans (items_of live)) ≤ room → length kept + length between ≤ room + (m - n)
room_between make live start end n m room kept between le order few first some last fits =
    omega (
      arith,
      count_parts live start end le,
      ap length first,
      ap length last,
      length-take n kept,
      length-drop m kept,
      length-map (fans (items_of (take start live))) make,
      length-map (fans (items_of (drop end live))) make,
      some,
      fits,
      few,
      order,
    )
