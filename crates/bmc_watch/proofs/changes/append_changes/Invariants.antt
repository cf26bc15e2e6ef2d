use Rattle.std.proofs.Common.{◌≡◌, ◌+◌, ◌-◌, ◌≤◌, ◌++◌, map, take, length, vec_len, vec_capacity}
use Rattle.inventory.specs.Indexes.{kept_of}
use Rattle.bmc_machine.specs.Changes.{board_change}
use Rattle.bmc_watch.proofs.changes.append_changes.Given as goal

abbrev pub invariant-loop-key : goal.invariant-loop-key
invariant-loop-key g l = record {
  items : l.changes.items ≡ l.fn.changes.items ++ map (board_change l.gone l.shelf (kept_of l.keep.kept)) (take l.key-index l.keys);
  room : vec_len l.changes + (length l.keys - l.key-index) ≤ vec_capacity l.changes;
  capacity : vec_capacity l.changes ≡ vec_capacity l.fn.changes;
}
