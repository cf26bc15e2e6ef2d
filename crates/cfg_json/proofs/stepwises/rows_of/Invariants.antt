-- The rows so far have the first readings with their outputs; the others are unused.
use Rattle.std.proofs.Common.{◌≡◌, map, take}
use Rattle.cfg_json.specs.Stepwises.{in_milli, rows_of, twenty_rows}
use Rattle.cfg_json.proofs.stepwises.rows_of.Given as goal

abbrev pub invariant-loop-i : goal.invariant-loop-i
invariant-loop-i l = l.rows ≡ twenty_rows (rows_of (map in_milli (take l.i l.readings)) (map in_milli (take l.i l.outputs)))
