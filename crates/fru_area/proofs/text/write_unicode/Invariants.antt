use Rattle.std.proofs.Common.{◌≡◌, ◌+◌, ◌*◌, ◌<◌, ◌≤◌, ◌++◌, length}
use Rattle.fru_area.specs.Texts.{unicode_text}
use Rattle.fru_area.proofs.text.write_unicode.Given as goal

abbrev pub invariant-loop-c : goal.invariant-loop-c
invariant-loop-c l = record {
  text : l.text ++ unicode_text l.rest ≡ unicode_text l.bytes;
  short : 0 < length l.rest → length l.text + 2 * length l.rest ≤ 126;
}

abbrev pub decreases-loop-c : goal.decreases-loop-c
decreases-loop-c l = length l.rest
