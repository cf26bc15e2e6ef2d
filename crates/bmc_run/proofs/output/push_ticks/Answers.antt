use Rattle.std.proofs.Common.{◌≡◌, ◌∙◌, arith, refl}
use Rattle.std.proofs.lemmas.Result.{err_from_is_err_and}
use Rattle.bmc_run.proofs.TicksLemmas.{told_ticked, ticks_none, ticks_more, ticks_all, ticks_after, ticks_front, ticks_stopped}
use Rattle.bmc_run.proofs.output.push_ticks.Goals as goal

pub loop-init : goal.loop-init
loop-init g c = record { rows = ticks_none _ _ _ _; sink = refl }

pub returns-in_err-push_changes-clause-front : goal.returns-in_err-push_changes-clause-front
returns-in_err-push_changes-clause-front g c =
    let p = err_from_is_err_and c.from_residual.result c.from_residual.ensures.1 in
    rw p.1 (ticks_front _ _ _ _ _ _ _ _ c.loop.invariant.rows)

pub returns-in_err-flush_large-clause-front : goal.returns-in_err-flush_large-clause-front
returns-in_err-flush_large-clause-front g c =
    let p = err_from_is_err_and c.from_residual-in_err-flush_large.result c.from_residual-in_err-flush_large.ensures.1 in
    let told = told_ticked c.loop.core c.tick.new.self _ _ _ _ c.tick.ensures.exact c.tick_count.ensures.value c.changes.ensures
    c.in_ok-push_changes.ensures in
    rw p.1 (ticks_stopped _ _ _ _ _ _ _ _ _ _ c.loop.invariant.rows c.loop-test.true told c.in_err-flush_large.ensures.front)

pub loop-preserved : goal.loop-preserved
loop-preserved g c =
    let told = told_ticked c.loop.core c.tick.new.self _ _ _ _ c.tick.ensures.exact c.tick_count.ensures.value c.changes.ensures
    c.in_ok-push_changes.ensures in
    record {
      rows = ticks_more _ _ _ _ _ _ _ _ _ _ _ _ c.loop.invariant.rows c.loop-test.true c.tick.ensures.exact told c.in_ok-flush_large.ensures.all;
      sink = c.in_ok-flush_large.ensures.cause.none ∙ c.loop.invariant.sink;
    }

pub returns-clause-all : goal.returns-clause-all
returns-clause-all g c =
    let end = c.loop.auto.counter-end in
    let test = c.loop-test.false in
    let whole : c.loop.counter ≡ c.args.count = omega (arith, end, test) in
    ticks_all _ _ _ _ _ _ _ _ c.loop.invariant.rows whole

pub returns-clause-core : goal.returns-clause-core
returns-clause-core g c =
    let end = c.loop.auto.counter-end in
    let test = c.loop-test.false in
    let whole : c.loop.counter ≡ c.args.count = omega (arith, end, test) in
    ticks_after _ _ _ _ _ _ _ _ c.loop.invariant.rows whole
