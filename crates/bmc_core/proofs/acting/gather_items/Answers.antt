use Rattle.std.proofs.Common.{◌≡◌, ◌+◌, List, [], ◌∷◌, arith, drop, length, subst, take, true, sym}
use Rattle.std.proofs.lemmas.List.{drop_more}
use Rattle.cfg_json.specs.declared.item.Item.{Item}
use Rattle.inventory.specs.Items.{bears_name, is_live}
use Rattle.bmc_watch.specs.Watches.{view_items}
use Rattle.fan_zone.specs.Live.{items_of}
use Rattle.bmc_core.proofs.ActingLemmas.{Gathers, gathers_more}
use Rattle.bmc_core.proofs.acting.gather_items.Goals as goal

pub gather_item-count-requires-clause-own : goal.gather_item-count-requires-clause-own
gather_item-count-requires-clause-own g c known =
    subst (λ (item : Item). bears_name item.part ≡ true → is_live (view_items c.args.watch.now) item ≡ true) (sym c.item-item.is)
    (c.requires.own known c.loop-item.item-index c.item-item.result c.loop-item-test.true)

pub loop-item-preserved : goal.loop-item-preserved
loop-item-preserved g c =
    let watch = c.args.watch.now in
    let one : Item = c.item-item.result in
    let here = c.loop-item-test.true in
    let gathered = items_of (take c.loop-item.count c.loop-item.into) in
    let start = items_of (take c.args.count c.args.into.now) in
    let later = drop (c.loop-item.item-index + 1) c.args.items.now in
    let split : drop c.loop-item.item-index c.args.items.now ≡ one ∷ later =
    subst (λ (item : Item). drop c.loop-item.item-index c.args.items.now ≡ item ∷ later) (sym c.item-item.is)
    (drop_more c.args.items.now c.loop-item.item-index one here) in
    let more = gathers_more watch c.loop-item.count c.gather_item-count.result gathered
    (items_of (take c.gather_item-count.result c.gather_item-count.new.into)) (one ∷ []) later start c.args.items.now c.args.count (length c.loop-item.into)
    (subst (λ (left : List Item). Gathers watch c.loop-item.count gathered left start c.args.items.now c.args.count (length c.loop-item.into)) split
    c.loop-item.invariant.gathers) c.gather_item-count.ensures.items c.gather_item-count.ensures.count in
    let fits = more.fits in
    let same = c.gather_item-count.auto.into in
    let before = c.loop-item.invariant.same in
    record { gathers = record { items = more.items; counts = more.counts; fits = omega (arith, fits, same) }; same = omega (arith, same, before) }
