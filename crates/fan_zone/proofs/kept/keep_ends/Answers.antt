use Rattle.std.proofs.Common.{◌+◌, ◌-◌, List, length, take, drop, ap, subst, ◌∙◌, arith}
use Rattle.std.specs.Borrow.{Bor}
use Rattle.std.specs.List.{slice_range}
use Rattle.std.proofs.lemmas.List.{drop-drop}
use Rattle.cfg_json.specs.declared.item.Item.{Item}
use Rattle.fan_zone.specs.declared.rows.FanPlan.{FanPlan}
use Rattle.fan_zone.specs.declared.rows.FanRow.{FanRow}
use Rattle.fan_zone.specs.Kept.{KeepsBack}
use Rattle.fan_zone.specs.Live.{LiveFan, controls, fan_id, fans, items_of}
use Rattle.fan_zone.specs.Sound.{HaveOwnIds}
use Rattle.fan_zone.proofs.CutFans.{all_behind, ends_kept, live_parts, own_rest, put_rest}
use Rattle.fan_zone.proofs.kept.keep_ends.Goals as goal

pub keep_back-left-requires-clause-ids : goal.keep_back-left-requires-clause-ids
keep_back-left-requires-clause-ids c =
    own_rest (controls (items_of c.args.controllers.now)) (fans (items_of (take c.keep_front-start.result.items c.args.live.now)))
    c.keep_front-start.result.fans c.args.plans.now c.keep_front-start.new.plans c.args.rows.now c.keep_front-start.new.rows
    c.keep_front-start.ensures.kept c.requires.ids

pub returns-clause-kept : goal.returns-clause-kept
returns-clause-kept c =
    let cs = controls (items_of c.args.controllers.now) in
    let live = c.args.live.now in
    let start = c.keep_front-start.result in
    let left = c.keep_back-left.result in
    let plans = c.keep_front-start.new.plans in
    let rows = c.keep_front-start.new.rows in
    let front = fans (items_of (take start.items live)) in
    let middle = fans (items_of (slice_range live start.items (start.items + left.items))) in
    let back = fans (items_of (drop (start.items + left.items) live)) in
    let own = subst (λ (l : List LiveFan). HaveOwnIds fan_id l) (live_parts live start.items (start.items + left.items) (omega arith)) c.requires.live_ids in
    let behind = ap (λ (l : List (Bor Item)). fans (items_of (drop left.items l))) (all_behind start.items live)
    ∙ ap (λ (l : List (Bor Item)). fans (items_of l)) (drop-drop left.items start.items live) in
    let kept : KeepsBack cs back left.fans (drop start.fans plans) (drop start.fans rows) c.keep_back-left.new.plans c.keep_back-left.new.rows =
    subst (λ (l : List FanRow). KeepsBack cs back left.fans (drop start.fans plans) l c.keep_back-left.new.plans c.keep_back-left.new.rows)
    (all_behind start.fans rows)
    (subst (λ (l : List FanPlan). KeepsBack cs back left.fans l (take (length rows - start.fans) (drop start.fans rows)) c.keep_back-left.new.plans
    c.keep_back-left.new.rows) (all_behind start.fans plans)
    (subst (λ (l : List LiveFan). KeepsBack cs l left.fans (take (length plans - start.fans) (drop start.fans plans))
    (take (length rows - start.fans) (drop start.fans rows)) c.keep_back-left.new.plans c.keep_back-left.new.rows) behind c.keep_back-left.ensures.kept)) in
    ends_kept cs front middle back start.fans left.fans c.args.plans.now plans c.keep_back-left.new.plans _ c.args.rows.now rows
    c.keep_back-left.new.rows _ own c.requires.same c.requires.ids c.keep_front-start.ensures.kept kept
    (put_rest start.fans plans c.keep_back-left.new.plans) (put_rest start.fans rows c.keep_back-left.new.rows)
