use Rattle.std.proofs.Common.{arith}
use Rattle.bmc_text.proofs.FeedsLemmas.{reads_behind}
use Rattle.bmc_text.proofs.buffer.refill.Goals as goal

pub returns-clause-reads : goal.returns-clause-reads
returns-clause-reads g c =
    reads_behind _ _ _ c.to_front.new.buffer c.read_at.new.buffer _ c.in_ok-count.count c.to_front.ensures c.read_at.ensures.front
    (omega (arith, c.in_ok-count.ensures.within, c.read_at.auto.buffer, c.to_front.auto.buffer)) c.in_ok-count.ensures.bytes
