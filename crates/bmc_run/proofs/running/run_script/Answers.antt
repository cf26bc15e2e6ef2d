use Rattle.std.proofs.lemmas.Result.{err_from_is_err_and}
use Rattle.bmc_run.proofs.Along.{never_begun}
use Rattle.bmc_run.proofs.running.run_script.Goals as goal

pub returns-in_err-items-clause-run : goal.returns-in_err-items-clause-run
returns-in_err-items-clause-run g c =
    let p = err_from_is_err_and c.from_residual.result c.from_residual.ensures.1 in
    rw (p.1, p.2) (λ first before after. never_begun first _ before _ _ c.args.run.now after)
