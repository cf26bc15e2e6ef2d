use Rattle.std.proofs.Common.{◌≡◌, [], ◌++◌, map, replicate}
use Rattle.ctl_face.specs.Seen.{unloaded}
use Rattle.ctl_face.specs.declared.kind.Kind.TheVariants.{Pid, Stepwise}
use Rattle.bmc_rows.specs.contracts.bank.CountedBoxController.TheImpl.{seen-value}
use Rattle.bmc_rows.proofs.bank.counted_bank.Given as goal

abbrev pub invariant-loop : goal.invariant-loop
invariant-loop l = map seen-value.it l.bank.items ≡ [] ++ replicate l.counter (unloaded Pid)

abbrev pub invariant-loop-2 : goal.invariant-loop-2
invariant-loop-2 l = map seen-value.it l.bank.items ≡ replicate 128 (unloaded Pid) ++ replicate l.counter (unloaded Stepwise)
