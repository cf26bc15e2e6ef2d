use Rattle.std.proofs.lemmas.Result.{on_ok_weaker}
use Rattle.bmc_watch.proofs.EventsLemmas.{on_err}
use Rattle.bmc_run.proofs.RunsLemmas.{left_answered, taken_next}
use Rattle.bmc_run.proofs.run.Run.take.Goals as goal

pub returns-in-Some-clause-ok : goal.returns-in-Some-clause-ok
returns-in-Some-clause-ok g c =
    on_ok_weaker c.count_item.result
    (taken_next _ _ c.in-Some.effect c.args.self.now c.answer.new.self c.count_item.new.self _ _ c.in_ok-effect.ensures c.in-Some.is)
    c.count_item.ensures

pub returns-in-Some-clause-err : goal.returns-in-Some-clause-err
returns-in-Some-clause-err g c = on_err c.count_item.result (left_answered _ _ _ _ _ _ c.in_ok-effect.ensures)
