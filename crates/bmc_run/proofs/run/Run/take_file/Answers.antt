-- A file is taken, and nothing is still to be done of it.
use Rattle.std.proofs.Common.{◌∙◌}
use Rattle.std.proofs.lemmas.Result.{on_ok_weaker}
use Rattle.bmc_watch.proofs.EventsLemmas.{on_err}
use Rattle.bmc_run.proofs.RunsLemmas.{left_with}
use Rattle.bmc_run.proofs.run.Run.take_file.Goals as goal

pub returns-clause-none : goal.returns-clause-none
returns-clause-none g c = on_ok_weaker c.count_item.result (λ counts. counts.pending ∙ c.in_ok-effect.ensures.plain) c.count_item.ensures

pub returns-clause-err : goal.returns-clause-err
returns-clause-err g c =
    on_err c.count_item.result (left_with _ c.in_ok-effect.ensures.answers.verdict _ _ c.in_ok-effect.ensures.answers.is_verdict)
