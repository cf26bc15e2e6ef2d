-- What is passed over are operations, and the text may be cut behind them.
use Rattle.std.proofs.Common.{◌≡◌, ◌+◌, ◌-◌, ◌≤◌, length, drop}
use Rattle.std.specs.Prelude.{IsUtf8}
use Rattle.tmpl.specs.Operations.{operations_len}
use Rattle.tmpl.proofs.operation.operations_len.Given as goal

abbrev pub invariant-loop-later : goal.invariant-loop-later
invariant-loop-later l = record {
  len : operations_len l.text + length l.rest ≡ length l.text + operations_len l.rest;
  behind : l.rest ≡ drop (length l.text - length l.rest) l.text;
  within : length l.rest ≤ length l.text;
  cut : IsUtf8 l.text → IsUtf8 l.rest;
}

abbrev pub decreases-loop-later : goal.decreases-loop-later
decreases-loop-later l = length l.rest
