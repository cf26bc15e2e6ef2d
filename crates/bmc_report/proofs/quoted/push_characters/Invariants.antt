use Rattle.std.proofs.Common.{◌≡◌, ◌++◌, string_bytes}
use Rattle.std.specs.List.{flat_map}
use Rattle.bmc_report.specs.Quoted.{escaped}
use Rattle.bmc_report.proofs.quoted.push_characters.Given as goal

abbrev pub invariant-loop-char : goal.invariant-loop-char
invariant-loop-char l = string_bytes l.out ≡ string_bytes l.fn.out ++ flat_map escaped l.yielded
