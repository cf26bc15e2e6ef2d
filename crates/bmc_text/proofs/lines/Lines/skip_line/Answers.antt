use Rattle.std.proofs.Common.{◌≡◌, ◌+◌, [], drop, ap, sym, ◌∙◌, refl, arith}
use Rattle.bmc_text.proofs.FeedsLemmas.{Reads-none, Reads-anew, Reads-waiting, waiting_of, read_of, ended_of}
use Rattle.bmc_text.proofs.LinesLemmas.{takes_long, takes_long_last, too_long_more}
use Rattle.bmc_text.proofs.lines.Lines.skip_line.Goals as goal

pub pieces-init : goal.pieces-init
pieces-init g c = record {
  reads = Reads-none _ _ _ _ _ refl (record { none = c.requires.none; long = c.requires.long });
  going = c.requires.going;
  none = refl;
}

pub returns-then-branch-eq0-clause-next : goal.returns-then-branch-eq0-clause-next
returns-then-branch-eq0-clause-next g c =
    let dropped = c.drop_waiting.ensures in
    let finished = c.finish.ensures in
    let same : c.fill.new.self.read ≡ c.drop_waiting.new.self.read = omega (arith, c.in_ok-fill.ensures.count) in
    let empty : c.fill.new.self.waiting ≡ [] = sym (Reads-waiting c.fill.ensures.reads same) ∙ waiting_of dropped in
    Reads-anew _ c.pieces.invariant.reads c.fill.ensures.reads (waiting_of dropped) (read_of dropped) (read_of finished)
    (λ bytes are. takes_long_last bytes _ _ _ are empty (waiting_of finished) (ended_of finished))

pub returns-in-Some-clause-next : goal.returns-in-Some-clause-next
returns-in-Some-clause-next g c =
    let dropped = c.drop_waiting.ensures in
    let same = c.newline.ensures.same in
    let taken = c.take.ensures in
    Reads-anew _ c.pieces.invariant.reads c.fill.ensures.reads (waiting_of dropped) (read_of dropped) (read_of taken ∙ read_of same)
    (λ bytes are. takes_long bytes _ _ c.in-Some.at _ are c.in-Some.ensures.place (waiting_of taken ∙ ap (drop (c.in-Some.at + 1)) (waiting_of same))
    (ended_of taken ∙ ended_of same ∙ c.in-Some.ensures.going))

pub pieces-preserved : goal.pieces-preserved
pieces-preserved g c =
    let dropped = c.drop_waiting.ensures in
    let same = c.newline.ensures.same in
    record {
      reads =
          Reads-anew _ c.pieces.invariant.reads c.fill.ensures.reads (waiting_of dropped) (read_of dropped) (read_of same)
          (λ bytes are. too_long_more bytes _ are c.in_default.ensures.place);
      going = ended_of same ∙ ended_of c.fill.ensures.frame ∙ ended_of dropped ∙ c.pieces.invariant.going;
      none = c.in_ok-fill.ensures.cause ∙ c.pieces.invariant.none;
    }
