use Rattle.bmc_run.proofs.RunsLemmas.{broken_answers}
use Rattle.bmc_run.proofs.run.take_block.Goals as goal

pub returns-in_ok-refusal-in-Err-clause-ok : goal.returns-in_ok-refusal-in-Err-clause-ok
returns-in_ok-refusal-in-Err-clause-ok g c =
    broken_answers c.args.block.now c.in-Err.rule c.in_ok-refusal-in-Err.refusal c.args.core.now _ _ c.in-Err.ensures c.in_ok-refusal-in-Err.ensures.refusal
