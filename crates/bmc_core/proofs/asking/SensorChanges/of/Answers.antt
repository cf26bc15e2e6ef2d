use Rattle.bmc_core.proofs.AskingLemmas.{noted_more}
use Rattle.bmc_core.proofs.asking.SensorChanges.of.Goals as goal

pub loop-change-preserved : goal.loop-change-preserved
loop-change-preserved c =
    noted_more c.args.changes.now c.loop-change.change-index c.change-item.result c.loop-change.lengths c.note_length.new.lengths
    c.loop-change-test.true c.change-item.is c.loop-change.invariant c.note_length.ensures
