-- A sample is told, or not.
use Rattle.std.proofs.lemmas.Result.{err_from_is_err_and}
use Rattle.bmc_replay.proofs.SampleLemmas.{tells_all, tells_front, tells_nothing}
use Rattle.bmc_replay.proofs.sample.run_sample.Goals as goal

pub returns-in_err-counted : goal.returns-in_err-counted
returns-in_err-counted g c =
    let p = err_from_is_err_and c.from_residual.result c.from_residual.ensures.1 in
    rw (p.1, p.2) (λ options new. tells_nothing options c.args.seed _ _ _ _ (c.in_err-counted.ensures options new))

pub returns-in_err-push_summary : goal.returns-in_err-push_summary
returns-in_err-push_summary g c =
    let p = err_from_is_err_and c.from_residual-in_err-push_summary.result c.from_residual-in_err-push_summary.ensures.1 in
    rw (p.1, p.2) (λ options new. tells_nothing options c.args.seed _ _ _ _ (c.in_ok-counted.ensures options new))

pub returns-in_err-flush : goal.returns-in_err-flush
returns-in_err-flush g c =
    let p = err_from_is_err_and c.from_residual-in_err-flush.result c.from_residual-in_err-flush.ensures.1 in
    rw (p.1, p.2) (λ options new.
    tells_front options c.args.seed c.in_ok-counted.counted _ _
    (c.in_ok-counted.ensures options new) _ _ _ _ c.new-text.ensures.bytes c.in_ok-push_summary.ensures
    c.flush.ensures.front c.in_err-flush.ensures.cause.failed)

pub returns : goal.returns
returns g c = λ options new.
    tells_all options c.args.seed c.in_ok-counted.counted _ _
    (c.in_ok-counted.ensures options new) _ _ _ _ c.new-text.ensures.bytes c.in_ok-push_summary.ensures
    c.in_ok-flush.ensures.all c.in_ok-flush.ensures.cause.none
