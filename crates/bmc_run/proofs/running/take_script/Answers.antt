use Rattle.std.proofs.Common.{true, arith, ap, refl, length}
use Rattle.std.proofs.lemmas.Result.{err_from_is_err_and}
use Rattle.bmc_text.specs.Feeds.{ItemFeed}
use Rattle.bmc_run.specs.Outside.{outside}
use Rattle.bmc_run.proofs.Along.{along_none, along_known, ended_cut, ended_all}
use Rattle.bmc_run.proofs.ReasonsLemmas.{reason_written, reason_ended}
use Rattle.bmc_run.proofs.running.take_script.Goals as goal

pub take_all-requires-clause-going : goal.take_all-requires-clause-going
take_all-requires-clause-going g c = ap (λ (feed : ItemFeed). feed.ended) c.requires.items

pub take_all-requires-clause-none : goal.take_all-requires-clause-none
take_all-requires-clause-none g c = c.requires.ready.pending

pub take_all-requires-clause-few : goal.take_all-requires-clause-few
take_all-requires-clause-few g c =
    let none = ap (λ (feed : ItemFeed). length feed.waiting) c.requires.items in
    let first = c.requires.ready.number in
    omega (arith, none, first)

pub take_all-requires-clause-limit : goal.take_all-requires-clause-limit
take_all-requires-clause-limit g c = let none = ap (λ (feed : ItemFeed). feed.read) c.requires.items in omega (arith, none)

pub returns-in_err-take_all-clause-run : goal.returns-in_err-take_all-clause-run
returns-in_err-take_all-clause-run g c =
    let p = err_from_is_err_and c.from_residual.result c.from_residual.ensures.1 in
    rw (p.1, p.2) (λ first before after.
    c.in_err-take_all.ensures.stops first _ _ (along_none first _ before _ _ c.args.items.now c.args.run.now c.requires.items c.requires.ready after))

pub returns-in_err-finish-clause-run : goal.returns-in_err-finish-clause-run
returns-in_err-finish-clause-run g c =
    let p = err_from_is_err_and c.from_residual-in_err-finish.result c.from_residual-in_err-finish.ensures.1 in
    rw (p.1, p.2) (λ first before after.
    ended_cut first c.in_err-finish.field-0.0 _ (outside (g.S.Source.seen c.take_all.new.input) (g.K.Sink.seen c.take_all.new.output))
    (outside (g.S.Source.seen c.take_all.new.input) (g.K.Sink.seen c.finish.new.output)) _ _ c.take_all.new.items c.take_all.new.run _ _
    c.in_ok-take_all.ensures.at_end c.in_ok-take_all.ensures.limit.limit refl
    (along_known first _ true _ _ _ _ c.take_all.new.items c.take_all.new.run c.in_ok-take_all.ensures.ended
    (c.in_ok-take_all.ensures.comes first _ _ (along_none first _ before _ _ c.args.items.now c.args.run.now c.requires.items c.requires.ready after)))
    c.in_ok-take_all.ensures.none c.in_err-finish.ensures.front c.in_err-finish.ensures.cause)

pub returns-clause-run : goal.returns-clause-run
returns-clause-run g c = λ first before after.
    ended_all first _ (outside (g.S.Source.seen c.take_all.new.input) (g.K.Sink.seen c.take_all.new.output))
    (outside (g.S.Source.seen c.take_all.new.input) (g.K.Sink.seen c.finish.new.output)) _ _ c.take_all.new.items c.take_all.new.run
    c.in_ok-take_all.ensures.at_end (c.in_ok-take_all.ensures.limit.at_end c.in_ok-take_all.ensures.ended) refl
    (along_known first _ true _ _ _ _ c.take_all.new.items c.take_all.new.run c.in_ok-take_all.ensures.ended
    (c.in_ok-take_all.ensures.comes first _ _ (along_none first _ before _ _ c.args.items.now c.args.run.now c.requires.items c.requires.ready after)))
    c.in_ok-take_all.ensures.none c.in_ok-finish.ensures.all

pub returns-in_err-finish-clause-reason : goal.returns-in_err-finish-clause-reason
returns-in_err-finish-clause-reason g c =
    let p = err_from_is_err_and c.from_residual-in_err-finish.result c.from_residual-in_err-finish.ensures.1 in
    rw (p.1, p.2)
    (reason_written c.in_err-finish.field-0.0 (outside (g.S.Source.seen c.args.input.now) (g.K.Sink.seen c.args.output.now))
    (outside (g.S.Source.seen c.take_all.new.input) (g.K.Sink.seen c.take_all.new.output))
    (outside (g.S.Source.seen c.take_all.new.input) (g.K.Sink.seen c.finish.new.output)) c.in_ok-take_all.ensures.reason.0
    c.in_ok-take_all.ensures.reason.1 refl c.in_err-finish.ensures.cause)

pub returns-clause-reason : goal.returns-clause-reason
returns-clause-reason g c =
    reason_ended c.take_all.new.run.refused (outside (g.S.Source.seen c.args.input.now) (g.K.Sink.seen c.args.output.now))
    (outside (g.S.Source.seen c.take_all.new.input) (g.K.Sink.seen c.take_all.new.output))
    (outside (g.S.Source.seen c.take_all.new.input) (g.K.Sink.seen c.finish.new.output)) c.in_ok-take_all.ensures.reason.0
    c.in_ok-take_all.ensures.reason.1 refl c.in_ok-finish.ensures.cause
