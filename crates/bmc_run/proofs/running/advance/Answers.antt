use Rattle.std.proofs.Common.{◌≡◌, rules}
use Rattle.std.proofs.lemmas.Result.{err_from_is_err_and}
use Rattle.bmc_run.proofs.Along.{stops_unbuffered}
use Rattle.bmc_run.proofs.running.advance.Goals as goal

pub returns-in_err-next-2-clause-stops : goal.returns-in_err-next-2-clause-stops
returns-in_err-next-2-clause-stops g c =
    let p = err_from_is_err_and c.from_residual-in_err-next-2.result c.from_residual-in_err-next-2.ensures.1 in
    let same : c.next_buffered.new.self ≡ c.args.items.now = search rules in
    rw (p.1, p.2)
    (stops_unbuffered c.in_err-next-2.field-0.0 _ c.next_buffered.new.self _ _ _ _ _ _ same c.in_ok-flush.ensures.all c.in_err-next-2.ensures.lacks
    c.in_err-next-2.ensures.cause)
