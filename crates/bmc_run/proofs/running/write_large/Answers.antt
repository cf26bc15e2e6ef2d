use Rattle.std.proofs.lemmas.Result.{err_from_is_err_and}
use Rattle.bmc_run.proofs.GatheringLemmas.{gathers_cut, gathers_on}
use Rattle.bmc_run.proofs.running.write_large.Goals as goal

pub returns-in_err-flush_large-clause-front : goal.returns-in_err-flush_large-clause-front
returns-in_err-flush_large-clause-front g c =
    let p = err_from_is_err_and c.from_residual-in_err-flush_large.result c.from_residual-in_err-flush_large.ensures.1 in
    rw p.1 (gathers_cut _ _ _ _ _ _ c.in_ok-do_pending.ensures.all c.in_err-flush_large.ensures.front)

pub returns-clause-all : goal.returns-clause-all
returns-clause-all g c = gathers_on _ _ _ _ _ _ _ c.in_ok-do_pending.ensures.all c.in_ok-flush_large.ensures.all
