use Rattle.std.proofs.Common.{◌≡◌, ◌≤◌, [], ◌++◌, length, length-append, ap, sym, ◌∙◌, refl, arith}
use Rattle.bmc_text.proofs.BlocksLemmas.{AreOfBlock-none, AreOfBlock-push, AreOfBlock-few, AreOfBlock-last, size_of}
use Rattle.bmc_text.proofs.FeedsLemmas.{Reads-none, Reads-anew, Reads-waiting, waiting_of, read_of, ended_of}
use Rattle.bmc_text.proofs.lines.Lines.read_block.Goals as goal

pub pieces-init : goal.pieces-init
pieces-init g c = record {
  reads = Reads-none _ _ _ _ _ refl (AreOfBlock-none c.args.part c.args.self.now.waiting c.requires.none);
  size = refl;
  going = c.requires.going;
  waits = λ more. refl;
  none = refl;
}

pub returns-then-branch-eq0-clause-block : goal.returns-then-branch-eq0-clause-block
returns-then-branch-eq0-clause-block g c =
    let dropped = c.drop_waiting.ensures in
    let finished = c.finish.ensures in
    let all = c.waiting-in-pieces.ensures.value in
    let same : c.fill.new.self.read ≡ c.drop_waiting.new.self.read = omega (arith, c.in_ok-fill.ensures.count) in
    let empty : c.fill.new.self.waiting ≡ [] = sym (Reads-waiting c.fill.ensures.reads same) ∙ waiting_of dropped in
    let few : length c.waiting-in-pieces.result.now ≤ c.pieces.part.wanted =
    omega (arith, c.pieces-test.true, ap length all, ap length c.waiting.ensures.value, c.wanted.ensures) in
    Reads-anew _ c.pieces.invariant.reads c.fill.ensures.reads (waiting_of dropped) (read_of dropped) (read_of finished)
    (λ bytes are. AreOfBlock-last c.push.new.self _ _ (bytes ++ c.fill.new.self.waiting) _ _ _ (size_of c.push.ensures.part ∙ c.pieces.invariant.size) empty
    (AreOfBlock-push c.pieces.part c.push.new.self c.pieces.self.waiting c.waiting-in-pieces.result.now bytes _ all few c.push.ensures.part
    c.push.ensures.bytes are)
    c.finish-then-branch-eq0.ensures (waiting_of finished) (ended_of finished))

pub pieces-preserved : goal.pieces-preserved
pieces-preserved g c =
    let dropped = c.drop_waiting.ensures in
    let all = c.waiting-in-pieces.ensures.value in
    let waiting = ap length c.waiting.ensures.value in
    let few : length c.waiting-in-pieces.result.now ≤ c.pieces.part.wanted = omega (arith, c.pieces-test.true, ap length all, waiting, c.wanted.ensures) in
    let size = size_of c.push.ensures.part in
    let reads = c.pieces.invariant.reads in
    record {
      reads =
          Reads-anew _ reads c.fill.ensures.reads (waiting_of dropped) (read_of dropped) refl
          (λ bytes are. AreOfBlock-push c.pieces.part c.push.new.self c.pieces.self.waiting c.waiting-in-pieces.result.now bytes _ all few c.push.ensures.part
          c.push.ensures.bytes are);
      size = size ∙ c.pieces.invariant.size;
      going = ended_of c.fill.ensures.frame ∙ ended_of dropped ∙ c.pieces.invariant.going;
      waits = λ more. absurd
          (omega (
            arith,
            size,
            AreOfBlock-few c.pieces.part c.pieces.self.waiting _
                (omega (arith, few, ap length all)) reads.bytes,
            length-append c.args.self.now.waiting reads.piece,
          ));
      none = c.in_ok-fill.ensures.cause ∙ c.pieces.invariant.none;
    }
