use Rattle.bmc_watch.specs.Panels.{row_duty}
use Rattle.bmc_watch.proofs.PanelLemmas.{either_ends, told_all}
use Rattle.bmc_watch.proofs.panel.append_duties.Goals as goal

pub returns-clause-items : goal.returns-clause-items
returns-clause-items c =
    told_all row_duty c.loop-was.was-iterator.a.rest.now c.loop-was.was-iterator.b.rest.now _ _ (either_ends _ _ _ _ c.in-None.ensures.steps)
    c.loop-was.invariant.items
