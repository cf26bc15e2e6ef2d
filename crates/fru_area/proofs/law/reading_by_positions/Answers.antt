use Rattle.fru_area.proofs.PositionsLemmas.{outside_read, no_end_read, whole_read, read-outside, read-no_end, read-whole}
use Rattle.fru_area.proofs.law.reading_by_positions.Goals as goal

pub returns : goal.returns
returns c = record {
  outside = λ area bytes start inside. (outside_read area bytes start inside, read-outside area bytes start);
  no_end = λ area bytes start inside. (no_end_read area bytes start inside, read-no_end area bytes start);
  whole = λ area bytes start inside. (whole_read area bytes start inside, read-whole area bytes start);
}
