use Rattle.std.proofs.Common.{◌≡◌, ◌++◌, take, string_bytes}
use Rattle.std.specs.List.{flat_map}
use Rattle.bmc_machine.specs.Shows.{zone_text}
use Rattle.bmc_core.proofs.lists.push_zone_rows.Given as goal

abbrev pub invariant-loop-row : goal.invariant-loop-row
invariant-loop-row l = string_bytes l.text ≡ string_bytes l.fn.text ++ flat_map zone_text (take l.row-index l.rows)
