use Rattle.std.proofs.Common.{◌∙◌, refl}
use Rattle.std.proofs.lemmas.Result.{err_from_is_err_and}
use Rattle.bmc_text.specs.NextItems.{item_next}
use Rattle.bmc_run.specs.Outside.{outside}
use Rattle.bmc_run.proofs.Along.{along_stops, along_leaves, along_unwritten, along_next, along_told, spends_item, counted_next, told_none, told_number}
use Rattle.bmc_run.proofs.ReasonsLemmas.{reason_written}
use Rattle.bmc_run.proofs.running.take_next.Goals as goal

pub returns-in_err-next-clause-stops : goal.returns-in_err-next-clause-stops
returns-in_err-next-clause-stops g c =
    let p = err_from_is_err_and c.from_residual.result c.from_residual.ensures.1 in
    rw (p.1, p.2) (λ first before maker along.
    along_stops first c.in_err-next.field-0.0 before _ _ maker _ c.args.items.now c.advance.new.items c.args.run.now c.in_err-next.ensures.limit.limit
    along c.requires.none c.in_err-next.ensures.stops)

pub returns-in_err-take-clause-stops : goal.returns-in_err-take-clause-stops
returns-in_err-take-clause-stops g c =
    let p = err_from_is_err_and c.from_residual-in_err-take.result c.from_residual-in_err-take.ensures.1 in
    rw (p.1, p.2) (λ first before maker along.
    along_leaves first (item_next c.in_ok-next.next c.advance.new.items) c.advance.new.items.ended before _
    (outside (g.S.Source.seen c.advance.new.input) (g.K.Sink.seen c.advance.new.output)) maker _ _
    c.args.items.now c.advance.new.items c.args.run.now _ c.in_ok-next.ensures.limit.limit c.in_ok-next.ensures.at_end
    along c.requires.none c.in_ok-next.ensures.next c.in_ok-next.ensures.gathered c.in_err-take.ensures.err)

pub returns-in_err-write_large-clause-stops : goal.returns-in_err-write_large-clause-stops
returns-in_err-write_large-clause-stops g c =
    let p = err_from_is_err_and c.from_residual-in_err-write_large.result c.from_residual-in_err-write_large.ensures.1 in
    rw (p.1, p.2) (λ first before maker along.
    along_unwritten first c.in_err-write_large.field-0.0 c.advance.new.items.ended before
    (outside (g.S.Source.seen c.advance.new.input) (g.K.Sink.seen c.advance.new.output))
    (outside (g.S.Source.seen c.advance.new.input) (g.K.Sink.seen c.write_large.new.output)) maker _ c.advance.new.items c.take.new.self _ _
    c.in_ok-next.ensures.limit.limit c.in_ok-next.ensures.at_end refl
    (along_next first c.in_ok-next.next before _ (outside (g.S.Source.seen c.advance.new.input) (g.K.Sink.seen c.advance.new.output)) maker _ _
    c.args.items.now c.advance.new.items c.args.run.now c.advance.new.run c.take.new.self c.in_ok-next.ensures.kept along c.requires.none
    c.in_ok-next.ensures.next c.in_ok-next.ensures.gathered c.in_ok-take.ensures.ok)
    c.in_err-write_large.ensures.front c.in_err-write_large.ensures.cause)

pub returns-clause-comes : goal.returns-clause-comes
returns-clause-comes g c = λ first before maker along.
    along_told first c.advance.new.items.ended before _ _ _ maker _ c.advance.new.items c.take.new.self c.write_large.new.run
    c.in_ok-write_large.ensures.left
    (along_next first c.in_ok-next.next before _ (outside (g.S.Source.seen c.advance.new.input) (g.K.Sink.seen c.advance.new.output)) maker _ _
    c.args.items.now c.advance.new.items c.args.run.now c.advance.new.run c.take.new.self c.in_ok-next.ensures.kept along c.requires.none
    c.in_ok-next.ensures.next c.in_ok-next.ensures.gathered c.in_ok-take.ensures.ok)
    c.in_ok-write_large.ensures.all

pub returns-clause-none : goal.returns-clause-none
returns-clause-none g c = told_none c.take.new.self c.write_large.new.run c.in_ok-write_large.ensures.left

pub returns-clause-counts : goal.returns-clause-counts
returns-clause-counts g c = λ going. record {
  number =
      told_number c.take.new.self c.write_large.new.run c.in_ok-write_large.ensures.left
      ∙ counted_next _ c.args.run.now c.advance.new.run c.take.new.self _ _ c.advance.new.items.ended _ _ going c.in_ok-next.ensures.kept
      c.in_ok-next.ensures.next.bytes c.in_ok-take.ensures.ok;
  spent =
      spends_item _ c.args.items.now c.advance.new.items c.in_ok-next.ensures.next.piece c.advance.new.items.ended going
      c.in_ok-next.ensures.next.bytes c.in_ok-next.ensures.next.count;
}

pub returns-in_err-write_large-clause-reason : goal.returns-in_err-write_large-clause-reason
returns-in_err-write_large-clause-reason g c =
    let p = err_from_is_err_and c.from_residual-in_err-write_large.result c.from_residual-in_err-write_large.ensures.1 in
    rw (p.1, p.2)
    (reason_written c.in_err-write_large.field-0.0 (outside (g.S.Source.seen c.args.input.now) (g.K.Sink.seen c.args.output.now))
    (outside (g.S.Source.seen c.advance.new.input) (g.K.Sink.seen c.advance.new.output))
    (outside (g.S.Source.seen c.advance.new.input) (g.K.Sink.seen c.write_large.new.output)) c.in_ok-next.ensures.reason.0
    c.in_ok-next.ensures.reason.1 refl c.in_err-write_large.ensures.cause)

pub returns-clause-reason : goal.returns-clause-reason
returns-clause-reason g c = (c.in_ok-next.ensures.reason.0, c.in_ok-write_large.ensures.cause ∙ c.in_ok-next.ensures.reason.1)
