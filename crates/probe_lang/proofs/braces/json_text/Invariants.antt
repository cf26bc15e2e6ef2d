-- Of the characters so far the JSON is written.
use Rattle.std.proofs.Common.{◌≡◌, ◌++◌, codes, string_bytes}
use Rattle.std.specs.List.{flat_map}
use Rattle.probe_lang.proofs.BracesLemmas.{json_char}
use Rattle.probe_lang.proofs.braces.json_text.Given as goal

abbrev pub invariant-loop-char : goal.invariant-loop-char
invariant-loop-char l = string_bytes l.json ≡ codes "{" ++ flat_map json_char l.yielded
