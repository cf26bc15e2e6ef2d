use Rattle.std.proofs.Common.{◌≡◌, ◌+◌, ◌-◌, ◌≤◌, ◌++◌, filter_map, take, length, vec_len, vec_capacity}
use Rattle.bmc_machine.specs.Changes.{item_change}
use Rattle.bmc_watch.proofs.changes.append_items.Given as goal

abbrev pub invariant-loop-item : goal.invariant-loop-item
invariant-loop-item l = record {
  items : l.changes.items ≡ l.fn.changes.items ++ filter_map (item_change l.gone) (take l.item-index l.items);
  len : vec_len l.changes ≤ vec_len l.fn.changes + l.item-index;
  room : vec_len l.changes + (length l.items - l.item-index) ≤ vec_capacity l.changes;
  capacity : vec_capacity l.changes ≡ vec_capacity l.fn.changes;
}
