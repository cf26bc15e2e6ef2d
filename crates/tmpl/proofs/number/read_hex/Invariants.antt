use Rattle.std.proofs.Common.{◌≡◌, ◌<◌, ◌^◌, take, true}
use Rattle.std.specs.Prelude.{fold}
use Rattle.std.specs.List.{list_all}
use Rattle.tmpl.specs.Numbers.{is_hex_digit, with_hex_digit}
use Rattle.tmpl.proofs.number.read_hex.Given as goal

-- the number of the digits so far
abbrev pub invariant-loop-byte : goal.invariant-loop-byte
invariant-loop-byte l = record {
  value : l.value ≡ fold with_hex_digit 0 (take l.byte-index l.text);
  digits : list_all is_hex_digit (take l.byte-index l.text) ≡ true;
  below : l.value < 16 ^ l.byte-index;
}
