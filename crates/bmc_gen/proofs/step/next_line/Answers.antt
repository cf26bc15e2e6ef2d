use Rattle.bmc_gen.proofs.MarksLemmas.{turn_follows}
use Rattle.bmc_gen.proofs.step.next_line.Goals as goal

pub returns-in-0 : goal.returns-in-0
returns-in-0 c =
    turn_follows c.args.occupied.now c.turn.new.occupied c.args.position c.args.choice c.turn.result c.in-0.is c.turn.ensures.line c.turn.ensures.marks
