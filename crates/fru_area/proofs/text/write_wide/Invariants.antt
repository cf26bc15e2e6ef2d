use Rattle.std.proofs.Common.{◌≡◌, ◌*◌, ◌≤◌, length, take}
use Rattle.fru_area.specs.Texts.{latin_text}
use Rattle.fru_area.proofs.text.write_wide.Given as goal

abbrev pub invariant-loop-byte : goal.invariant-loop-byte
invariant-loop-byte l = record {
  text : l.text ≡ latin_text (take l.byte-index l.bytes);
  short : length l.text ≤ 2 * l.byte-index;
}
