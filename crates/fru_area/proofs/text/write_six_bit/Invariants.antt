use Rattle.std.proofs.Common.{◌≡◌, ◌+◌, ◌*◌, ◌≤◌, ◌++◌, length}
use Rattle.fru_area.specs.Texts.{six_bit_text}
use Rattle.fru_area.proofs.text.write_six_bit.Given as goal

abbrev pub invariant-loop-rest : goal.invariant-loop-rest
invariant-loop-rest l = record {
  text : l.text ++ six_bit_text l.rest ≡ six_bit_text l.bytes;
  short : length l.text + 2 * length l.rest ≤ 2 * length l.bytes;
}

abbrev pub decreases-loop-rest : goal.decreases-loop-rest
decreases-loop-rest l = length l.rest
