use Rattle.std.proofs.Common.{◌≡◌, ◌∙◌, ℕ, arith, ap}
use Rattle.bmc_replay.proofs.BanksLemmas.{boxes, is_stated}
use Rattle.bmc_rows.proofs.bank.counted_bank.Goals as goal

pub returns : goal.returns
returns c =
    let end = c.loop-2.auto.counter-end in
    let test = c.loop-2-test.false in
    let all : c.loop-2.counter ≡ 64 = omega (arith, end, test) in
    is_stated _ (c.loop-2.invariant ∙ ap (boxes 128) all)
