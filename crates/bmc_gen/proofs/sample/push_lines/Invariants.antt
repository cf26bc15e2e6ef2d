use Rattle.std.proofs.Common.{◌≡◌, ◌<◌, ◌^◌, ◌++◌, string_bytes}
use Rattle.std.specs.List.{flat_map}
use Rattle.bmc_gen.specs.Lines.{line_text}
use Rattle.bmc_gen.specs.Marks.{marks_of}
use Rattle.bmc_gen.specs.Numbers.{number}
use Rattle.bmc_gen.specs.Scripts.{lines}
use Rattle.bmc_gen.proofs.sample.push_lines.Given as goal

abbrev pub invariant-loop-i : goal.invariant-loop-i
invariant-loop-i l = record {
  range : l.x < 2 ^ 31;
  nth : l.x ≡ number l.fn.seed l.i;
  marks : l.occupied ≡ marks_of (lines l.fn.seed l.i);
  text : string_bytes l.out ≡ string_bytes l.fn.out ++ flat_map line_text (lines l.fn.seed l.i);
}
