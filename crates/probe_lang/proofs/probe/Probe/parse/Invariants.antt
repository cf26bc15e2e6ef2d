-- What the texts that are left give, from what is read, is the probe of all; and every second text at the most is a pattern.
use Rattle.std.proofs.Common.{◌≡◌, ◌+◌, ◌*◌, ◌≤◌, drop, length, map}
use Rattle.std.specs.Prelude.{if◌then◌else◌}
use Rattle.probe_lang.specs.Grammar.{read_from, probe_of}
use Rattle.probe_lang.proofs.probe.Probe.parse.Given as goal

abbrev pub invariant-loop-at : goal.invariant-loop-at
invariant-loop-at g l = record {
  told : read_from l.wants_operand l.at l.reading (drop l.at (map (λ text. text.now) l.texts)) ≡ probe_of (map (λ text. text.now) l.texts);
  counted : 2 * length l.reading.patterns + (if l.wants_operand then 1 else 0) ≤ l.at + 1;
}
