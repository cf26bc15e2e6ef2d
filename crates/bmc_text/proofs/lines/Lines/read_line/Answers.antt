use Rattle.std.proofs.Common.{◌∙◌, refl}
use Rattle.std.proofs.lemmas.Result.{IfOk-weaker, on_err_weaker}
use Rattle.bmc_text.proofs.FeedsLemmas.{Reads-none, Reads-on, Reads-weaker, read_of, ended_of}
use Rattle.bmc_text.proofs.LinesLemmas.{takes_all}
use Rattle.bmc_text.proofs.lines.Lines.read_line.Goals as goal

pub pieces-init : goal.pieces-init
pieces-init g c = record {
  reads = Reads-none _ _ _ _ _ refl refl;
  none = c.requires.none;
  going = c.requires.going;
  no_fault = refl;
}

pub returns-then-branch-eq0-clause-next : goal.returns-then-branch-eq0-clause-next
returns-then-branch-eq0-clause-next g c =
    let taken = c.take_last.ensures.frame in
    Reads-weaker _ (Reads-on c.pieces.invariant.reads c.fill.ensures.reads) (read_of taken)
    (λ bytes are. takes_all _ bytes _ _ _ _ are (ended_of taken) c.take_last.ensures.line)

pub returns-in-Some-clause-next : goal.returns-in-Some-clause-next
returns-in-Some-clause-next g c =
    let taken = c.next_buffered.ensures.frame in
    Reads-weaker _ (Reads-on c.pieces.invariant.reads c.fill.ensures.reads) (read_of taken)
    (λ bytes are. takes_all _ bytes _ _ _ _ are (ended_of taken ∙ c.in-Some.ensures.going) c.in-Some.ensures.next)

pub returns-clause-lacks : goal.returns-clause-lacks
returns-clause-lacks g c = on_err_weaker c.skip_line.result (Reads-on c.pieces.invariant.reads) c.skip_line.ensures.lacks

pub returns-clause-next : goal.returns-clause-next
returns-clause-next g c = IfOk-weaker c.skip_line.result _ _ (λ got next. Reads-on c.pieces.invariant.reads next) c.skip_line.ensures.next
