use Rattle.std.proofs.Common.{◌≡◌, ◌+◌, ◌-◌, ◌++◌, length}
use Rattle.fru_area.specs.Texts.{six_bit_chars}
use Rattle.fru_area.proofs.text.push_six_bit.Given as goal

abbrev pub invariant-loop : goal.invariant-loop
invariant-loop l = record {
  text : l.text ++ six_bit_chars (l.count - l.counter) l.bits ≡ l.fn.text ++ six_bit_chars l.count l.fn.bits;
  room : length l.text ≡ length l.fn.text + l.counter;
}
