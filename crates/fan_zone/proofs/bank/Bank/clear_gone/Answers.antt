use Rattle.std.proofs.Common.{arith}
use Rattle.fan_zone.proofs.Clearing.{clears_more, clears_end}
use Rattle.fan_zone.proofs.bank.Bank.clear_gone.Goals as goal

pub loop-one-preserved : goal.loop-one-preserved
loop-one-preserved g c =
    clears_more c.args.taken.now c.args.held.now c.args.self.now c.loop-one.self c.clear_unless_taken.new.self c.loop-one.one-index c.one-item.result
    c.requires.seats c.loop-one.invariant (omega (arith, c.loop-one-test.true)) c.one-item.is c.clear_unless_taken.ensures

pub returns : goal.returns
returns g c =
    clears_end c.args.taken.now c.args.held.now c.args.self.now c.loop-one.self c.loop-one.one-index c.loop-one.invariant
    (omega (arith, c.loop-one-test.false))
