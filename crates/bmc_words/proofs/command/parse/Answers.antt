use Rattle.std.proofs.lemmas.Result.{IfOk-weaker}
use Rattle.bmc_words.proofs.PassedLemmas.{log_cap_passes, sample_passes}
use Rattle.bmc_words.proofs.command.parse.Goals as goal

pub returns-clause-log_cap : goal.returns-clause-log_cap
returns-clause-log_cap c =
    let parse = c.try_get_matches_from in
    IfOk-weaker parse.result _ _ (λ m. log_cap_passes c.in_ok-command.field-0 m c.in_ok-command.ensures) parse.ensures.parsed

pub returns-clause-sample : goal.returns-clause-sample
returns-clause-sample c =
    let parse = c.try_get_matches_from in
    IfOk-weaker parse.result _ _ (λ m. sample_passes c.in_ok-command.field-0 m c.in_ok-command.ensures) parse.ensures.parsed
