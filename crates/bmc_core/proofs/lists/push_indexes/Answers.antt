use Rattle.inventory.specs.Indexes.{kept_of}
use Rattle.bmc_core.proofs.RowsLemmas.{kept_more}
use Rattle.bmc_core.proofs.lists.push_indexes.Goals as goal

pub loop-number-preserved : goal.loop-number-preserved
loop-number-preserved g c =
    kept_more c.args.configs.now (kept_of c.args.keep.now.kept) c.loop-number.number c.in-Some.config.now c.name.result _ _ _ c.loop-number.invariant
    c.in-Some.ensures c.name.ensures c.in_ok-push_kept.ensures
