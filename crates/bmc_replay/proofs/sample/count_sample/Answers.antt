-- A sample is counted, or not for want of memory.
use Rattle.std.proofs.Common.{◌∙◌, Some, ap}
use Rattle.std.proofs.lemmas.Result.{err_from_is_err_and}
use Rattle.bmc_base.specs.Calls.{no_calls}
use Rattle.bmc_io.specs.MemSource.{MemoryInput}
use Rattle.bmc_replay.specs.Commands.{alone}
use Rattle.bmc_replay.proofs.SampleLemmas.{counts_by, counts_nothing}
use Rattle.bmc_replay.proofs.sample.count_sample.Goals as goal

pub returns-in_err-script : goal.returns-in_err-script
returns-in_err-script g c =
    let p = err_from_is_err_and c.from_residual.result c.from_residual.ensures.1 in
    rw p.1 (λ options new. counts_nothing options c.args.seed _ _)

pub returns-in_err-input : goal.returns-in_err-input
returns-in_err-input g c =
    let p = err_from_is_err_and c.from_residual-in_err-input.result c.from_residual-in_err-input.ensures.1 in
    rw p.1 (λ options new. counts_nothing options c.args.seed _ _)

pub returns : goal.returns
returns g c = λ options new.
    let left = ap (λ (input : MemoryInput). Some input.left) c.in_ok-input.ensures ∙ ap Some c.as_slice.ensures in
    rw c.counted_of.ensures
    (counts_by options c.args.seed c.in_ok-script.script c.in_ok-script.ensures _ _ _ _ left c.run_script-ended.result c.count.result c.new-output.ensures
    c.count.ensures
    (c.run_script-ended.ensures.run (alone options) (record { taken = c.new-output.result; calls = no_calls }) (new.1 c.new-output.result)))
