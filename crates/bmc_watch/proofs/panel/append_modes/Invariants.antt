use Rattle.std.proofs.Common.{◌≡◌, ◌+◌, ◌≤◌, ◌++◌, length, vec_capacity, vec_len}
use Rattle.std.specs.List.{flat_map, zip}
use Rattle.bmc_watch.specs.Panels.{row_mode}
use Rattle.bmc_watch.proofs.panel.append_modes.Given as goal

abbrev pub invariant-loop-was : goal.invariant-loop-was
invariant-loop-was l = record {
  items : l.changes.items ++ flat_map row_mode (zip l.was-iterator.a.rest.now l.was-iterator.b.rest.now)
      ≡ l.fn.changes.items ++ flat_map row_mode (zip l.before l.rows);
  len : vec_len l.changes + length l.was-iterator.b.rest.now ≤ vec_len l.fn.changes + length l.rows;
  capacity : vec_capacity l.changes ≡ vec_capacity l.fn.changes;
}
