use Rattle.std.proofs.Common.{◌≡◌, ◌++◌}
use Rattle.std.specs.List.{flat_map}
use Rattle.bmc_report.specs.Quoted.{escaped}
use Rattle.bmc_report.proofs.quoted.add_characters.Given as goal

abbrev pub invariant-loop-char : goal.invariant-loop-char
invariant-loop-char l = l.line.bytes ≡ l.fn.line.bytes ++ flat_map escaped l.yielded
