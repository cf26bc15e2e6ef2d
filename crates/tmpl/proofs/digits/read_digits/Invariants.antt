use Rattle.std.proofs.Common.{◌≡◌, ◌<◌, ◌^◌, take, true}
use Rattle.std.specs.Prelude.{fold}
use Rattle.std.specs.List.{list_all}
use Rattle.tmpl.specs.Operations.{is_digit, with_digit}
use Rattle.tmpl.proofs.digits.read_digits.Given as goal

-- the number of the digits so far
abbrev pub invariant-loop-digit : goal.invariant-loop-digit
invariant-loop-digit l = record {
  value : l.value ≡ fold with_digit 0 (take l.digit-index l.text);
  digits : list_all is_digit (take l.digit-index l.text) ≡ true;
  below : l.value < 10 ^ l.digit-index;
}
