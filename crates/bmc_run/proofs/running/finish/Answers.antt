use Rattle.std.proofs.Common.{sym}
use Rattle.std.proofs.lemmas.Result.{err_from_is_err_and}
use Rattle.bmc_run.proofs.GatheringLemmas.{gathers_cut}
use Rattle.bmc_run.proofs.running.finish.Goals as goal

pub returns-in_err-flush-clause-front : goal.returns-in_err-flush-clause-front
returns-in_err-flush-clause-front g c =
    let p = err_from_is_err_and c.from_residual-in_err-flush.result c.from_residual-in_err-flush.ensures.1 in
    rw (p.1, sym c.entries.ensures) (gathers_cut _ _ _ _ _ _ c.in_ok-push_list.ensures.all c.flush.ensures.front)
