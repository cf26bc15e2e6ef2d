use Rattle.std.proofs.Common.{◌≡◌, ◌++◌, take, string_bytes}
use Rattle.std.specs.List.{flat_map}
use Rattle.bmc_report.specs.Changes.{change_line}
use Rattle.bmc_run.proofs.output.push_changes.Given as goal

abbrev pub invariant-loop-change : goal.invariant-loop-change
invariant-loop-change l = record {
  text : string_bytes l.text ≡ string_bytes l.fn.text ++ flat_map (change_line l.tick) (take l.change-index l.changes);
}
