use Rattle.fan_zone.proofs.Clearing.{Clears}
use Rattle.fan_zone.proofs.bank.Bank.clear_gone.Given as goal

abbrev pub invariant-loop-one : goal.invariant-loop-one
invariant-loop-one g l = Clears l.taken l.held l.fn.self l.self l.one-index
