use Rattle.std.proofs.Common.{◌≡◌, ◌++◌, take, string_bytes}
use Rattle.bmc_core.specs.Lists.{log_rows}
use Rattle.bmc_core.proofs.lists.push_log.Given as goal

abbrev pub invariant-loop-entry : goal.invariant-loop-entry
invariant-loop-entry l = string_bytes l.text ≡ string_bytes l.fn.text ++ log_rows (take l.entry-index l.entries)
