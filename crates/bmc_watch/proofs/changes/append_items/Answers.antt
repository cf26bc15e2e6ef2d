use Rattle.std.proofs.Common.{◌∙◌, arith}
use Rattle.bmc_watch.proofs.ChangesLemmas.{item_more}
use Rattle.bmc_watch.proofs.changes.append_items.Goals as goal

pub loop-item-preserved : goal.loop-item-preserved
loop-item-preserved c =
    let more = c.append_change.ensures.len in
    let same = c.append_change.ensures.capacity in
    let here = c.loop-item-test.true in
    let len = c.loop-item.invariant.len in
    let room = c.loop-item.invariant.room in
    let capacity = c.loop-item.invariant.capacity in
    record {
      items = item_more c.args.gone c.args.items.now c.loop-item.item-index c.item-item.result c.item_change.result c.args.changes.now.items
          c.loop-item.changes.items c.append_change.new.changes.items here c.item-item.is c.item_change.ensures c.loop-item.invariant.items
          c.append_change.ensures.items;
      len = omega (arith, more, len);
      room = omega (arith, more, same, here, room);
      capacity = same ∙ capacity;
    }
