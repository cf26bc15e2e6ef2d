use Rattle.std.proofs.Common.{◌≡◌, ◌++◌, List, length, map, take, drop, ap, ◌∙◌, arith}
use Rattle.std.specs.List.{slice_range}
use Rattle.std.proofs.lemmas.List.{length-map}
use Rattle.fan_zone.specs.declared.rows.FanPlan.{FanPlan}
use Rattle.fan_zone.specs.declared.rows.FanRow.{FanRow}
use Rattle.fan_zone.specs.Live.{controls, fans, items_of}
use Rattle.fan_zone.specs.SetRows.{fan_plan_of, fan_row_of}
use Rattle.fan_zone.proofs.CutFans.{count_parts, renewed, room_between, written}
use Rattle.fan_zone.proofs.renew.renew_fans.Goals as goal

pub add_fans-requires-clause-plans : goal.add_fans-requires-clause-plans
add_fans-requires-clause-plans c =
    let k = c.keep_ends.result in
    omega (arith, ap length c.requires.plans_empty, c.requires.next_plans_room, count_parts c.args.live.now k.start.items k.end.items c.keep_ends.ensures.order)

pub add_fans-requires-clause-rows : goal.add_fans-requires-clause-rows
add_fans-requires-clause-rows c =
    let k = c.keep_ends.result in
    omega (arith, ap length c.requires.rows_empty, c.requires.next_rows_room, count_parts c.args.live.now k.start.items k.end.items c.keep_ends.ensures.order)

pub replace-requires-clause-room : goal.replace-requires-clause-room
replace-requires-clause-room c =
    let k = c.keep_ends.result in
    let kept = c.keep_ends.ensures.kept in
    let live = c.args.live.now in
    let cs = controls (items_of c.args.controllers.now) in
    let middle = fans (items_of (slice_range live k.start.items k.end.items)) in
    let size : length c.keep_ends.new.plans ≡ c.args.plans.now.len =
    omega (arith, c.keep_ends.auto.plans, ap length c.deref_mut.ensures.value, c.args.plans.now.ok.0) in
    let some : length c.add_fans.new.next_plans.items ≡ length middle =
    omega (
      arith,
      ap length (c.add_fans.ensures.plans ∙ ap (λ (l : List FanPlan). l ++ map (fan_plan_of cs) middle) c.requires.plans_empty),
      length-map middle (fan_plan_of cs),
    ) in
    omega (
      arith,
      ap length (written c.args.plans.now.len c.keep_ends.new.plans c.args.plans.now.items size),
      room_between (fan_plan_of cs) live k.start.items k.end.items k.start.fans k.end.fans c.args.plans.now.cap c.keep_ends.new.plans
          c.add_fans.new.next_plans.items c.keep_ends.ensures.order kept.order kept.few kept.front_plans some kept.back_plans c.requires.plans_room,
    )

pub replace-requires-2-clause-room : goal.replace-requires-2-clause-room
replace-requires-2-clause-room c =
    let k = c.keep_ends.result in
    let kept = c.keep_ends.ensures.kept in
    let live = c.args.live.now in
    let show = fan_row_of c.deref_mut.result.now c.deref_mut-2.result.now in
    let found = fan_row_of (slice_range c.deref.result.now k.start.fans k.end.fans) (slice_range c.deref-2.result.now k.start.fans k.end.fans) in
    let middle = fans (items_of (slice_range live k.start.items k.end.items)) in
    let size : length c.keep_ends.new.rows ≡ c.args.rows.now.len =
    omega (arith, c.keep_ends.auto.rows, ap length c.deref_mut-2.ensures.value, c.args.rows.now.ok.0) in
    let some : length c.add_fans.new.next_rows.items ≡ length middle =
    omega (arith, ap length (c.add_fans.ensures.rows ∙ ap (λ (l : List FanRow). l ++ map found middle) c.requires.rows_empty), length-map middle found) in
    omega (
      arith,
      ap length (written c.args.rows.now.len c.keep_ends.new.rows c.args.rows.now.items size),
      room_between show live k.start.items k.end.items k.start.fans k.end.fans c.args.rows.now.cap c.keep_ends.new.rows c.add_fans.new.next_rows.items
          c.keep_ends.ensures.order kept.order (omega (arith, kept.few, kept.same)) kept.front_rows some kept.back_rows c.requires.rows_room,
    )

pub returns-clause-plans : goal.returns-clause-plans
returns-clause-plans c =
    let k = c.keep_ends.result in
    let kept = c.keep_ends.ensures.kept in
    let cs = controls (items_of c.args.controllers.now) in
    let plans = c.keep_ends.new.plans in
    let between = c.add_fans.new.next_plans.items in
    let size : length plans ≡ c.args.plans.now.len =
    omega (arith, c.keep_ends.auto.plans, ap length c.deref_mut.ensures.value, c.args.plans.now.ok.0) in
    let some = c.add_fans.ensures.plans ∙ ap (λ (l : List FanPlan). l ++ map (fan_plan_of cs)
    (fans (items_of (slice_range c.args.live.now k.start.items k.end.items)))) c.requires.plans_empty in
    renewed (fan_plan_of cs) c.args.live.now k.start.items k.end.items k.start.fans k.end.fans plans between c.replace.new.list.items
    c.keep_ends.ensures.order kept.front_plans some kept.back_plans
    (c.replace.ensures.items ∙ ap (λ (l : List FanPlan). take k.start.fans l ++ (between ++ drop k.end.fans l))
    (written c.args.plans.now.len plans c.args.plans.now.items size))

pub returns-clause-rows : goal.returns-clause-rows
returns-clause-rows c =
    let k = c.keep_ends.result in
    let kept = c.keep_ends.ensures.kept in
    let live = c.args.live.now in
    let plans = c.keep_ends.new.plans in
    let rows = c.keep_ends.new.rows in
    let between = c.add_fans.new.next_rows.items in
    let show = fan_row_of c.deref_mut.result.now c.deref_mut-2.result.now in
    let middle = fans (items_of (slice_range live k.start.items k.end.items)) in
    let cut = λ (l : List FanPlan) (r : List FanRow). map (fan_row_of (slice_range l k.start.fans k.end.fans) (slice_range r k.start.fans k.end.fans)) middle in
    let size : length plans ≡ c.args.plans.now.len =
    omega (arith, c.keep_ends.auto.plans, ap length c.deref_mut.ensures.value, c.args.plans.now.ok.0) in
    let size_rows : length rows ≡ c.args.rows.now.len =
    omega (arith, c.keep_ends.auto.rows, ap length c.deref_mut-2.ensures.value, c.args.rows.now.ok.0) in
    let now : c.deref.result.now ≡ plans = c.deref.ensures.value ∙ written c.args.plans.now.len plans c.args.plans.now.items size in
    let whole = written c.args.rows.now.len rows c.args.rows.now.items size_rows in
    let now_rows : c.deref-2.result.now ≡ rows = c.deref-2.ensures.value ∙ whole in
    let some : between ≡ map show middle =
    c.add_fans.ensures.rows ∙ (ap (λ (l : List FanRow). l ++ cut c.deref.result.now c.deref-2.result.now) c.requires.rows_empty
    ∙ (ap (λ (l : List FanPlan). cut l c.deref-2.result.now) now ∙ (ap (cut plans) now_rows ∙ kept.between))) in
    renewed show live k.start.items k.end.items k.start.fans k.end.fans rows between c.replace-2.new.list.items c.keep_ends.ensures.order kept.front_rows
    some kept.back_rows
    (c.replace-2.ensures.items ∙ ap (λ (l : List FanRow). take k.start.fans l ++ (between ++ drop k.end.fans l)) whole)
    ∙ (ap (λ (l : List FanPlan). map (fan_row_of l c.deref_mut-2.result.now) (fans (items_of live))) c.deref_mut.ensures.value
    ∙ ap (λ (l : List FanRow). map (fan_row_of c.args.plans.now.items l) (fans (items_of live))) c.deref_mut-2.ensures.value)
