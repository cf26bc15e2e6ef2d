use Rattle.std.proofs.Common.{◌≡◌, ◌++◌, string_bytes}
use Rattle.std.specs.List.{flat_map, range_with_len}
use Rattle.inventory.specs.Indexes.{kept_of}
use Rattle.bmc_machine.specs.Shows.{index_rows}
use Rattle.bmc_core.proofs.lists.push_indexes.Given as goal

abbrev pub invariant-loop-number : goal.invariant-loop-number
invariant-loop-number g l =
    string_bytes l.text ≡ string_bytes l.fn.text ++ flat_map (index_rows l.configs (kept_of l.keep.kept)) (range_with_len 0 l.number)
