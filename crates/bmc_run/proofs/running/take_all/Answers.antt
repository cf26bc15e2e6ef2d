use Rattle.std.proofs.Common.{◌≡◌, ◌∙◌, true, false, Err, arith, sym, refl}
use Rattle.std.proofs.lemmas.Result.{err_from_is_err_and}
use Rattle.bmc_run.specs.Outside.{outside}
use Rattle.bmc_run.proofs.Along.{along_known}
use Rattle.bmc_run.proofs.ReasonsLemmas.{reason_behind}
use Rattle.bmc_run.proofs.running.take_all.Goals as goal

pub items-init : goal.items-init
items-init g c = record {
  comes = λ first before maker along.
      along_known first false c.args.items.now.ended before _ maker _ c.args.items.now c.args.run.now (sym c.requires.going) along;
  goes_on = c.requires.going;
  none = c.requires.none;
  number = c.requires.few;
  limit = c.requires.limit;
  source = refl;
  sink = refl;
}

pub items-preserved : goal.items-preserved
items-preserved g c =
    let going : c.take_next.new.items.ended ≡ false = sym c.is_ended.ensures ∙ c.if-is_ended.false in
    let counts = c.in_ok-take_next.ensures.counts going in
    record {
      comes = λ first before maker along.
          c.in_ok-take_next.ensures.comes first before maker
          (along_known first _ false before _ maker _ c.items.items c.items.run c.items.invariant.goes_on (c.items.invariant.comes first before maker along));
      goes_on = going;
      none = c.in_ok-take_next.ensures.none;
      number =
          let number = counts.number in
          let spent = counts.spent in
          omega (arith, number, spent, c.items.invariant.number);
      limit = c.in_ok-take_next.ensures.limit.limit;
      source = c.in_ok-take_next.ensures.reason.0 ∙ c.items.invariant.source;
      sink = c.in_ok-take_next.ensures.reason.1 ∙ c.items.invariant.sink;
    }

pub returns-in_err-take_next-clause-stops : goal.returns-in_err-take_next-clause-stops
returns-in_err-take_next-clause-stops g c =
    let p = err_from_is_err_and c.from_residual.result c.from_residual.ensures.1 in
    rw (p.1, p.2) (λ first before maker along.
    c.in_err-take_next.ensures.stops first before maker
    (along_known first _ false before _ maker _ c.items.items c.items.run c.items.invariant.goes_on (c.items.invariant.comes first before maker along)))

pub returns-in_err-take_next-clause-reason : goal.returns-in_err-take_next-clause-reason
returns-in_err-take_next-clause-reason g c =
    let p = err_from_is_err_and c.from_residual.result c.from_residual.ensures.1 in
    rw (p.1, p.2)
    (reason_behind (Err c.in_err-take_next.field-0.0) (outside (g.S.Source.seen c.args.input.now) (g.K.Sink.seen c.args.output.now))
    (outside (g.S.Source.seen c.items.input) (g.K.Sink.seen c.items.output))
    (outside (g.S.Source.seen c.take_next.new.input) (g.K.Sink.seen c.take_next.new.output)) c.items.invariant.source c.items.invariant.sink
    c.in_err-take_next.ensures.reason)

pub returns-clause-comes : goal.returns-clause-comes
returns-clause-comes g c = λ first before maker along.
    c.in_ok-take_next.ensures.comes first before maker
    (along_known first _ false before _ maker _ c.items.items c.items.run c.items.invariant.goes_on (c.items.invariant.comes first before maker along))

pub returns-clause-at_end : goal.returns-clause-at_end
returns-clause-at_end g c = c.in_ok-take_next.ensures.at_end (sym c.is_ended.ensures ∙ c.if-is_ended.true)

pub returns-clause-reason : goal.returns-clause-reason
returns-clause-reason g c =
    (c.in_ok-take_next.ensures.reason.0 ∙ c.items.invariant.source, c.in_ok-take_next.ensures.reason.1 ∙ c.items.invariant.sink)
