-- What one term does to what is read of a probe.
use Rattle.std.specs.Prelude.{ℕ, Bool, true, not, Result, Ok, Err}
use Rattle.probe_lang.specs.Grammar.{Reading, Parsed, parsed}
use Rattle.probe_lang.specs.declared.reading.Step.{Step}
use Rattle.probe_lang.specs.declared.reading.Step.TheVariants.{Read, Ends, Wrong}

-- what follows a term at this position: the reading of the texts behind it, the probe that ends with it, or its position
abbrev pub after : Step → Bool → ℕ → Reading → (Bool → Reading → Result Parsed ℕ) → Result Parsed ℕ
after Read wants_operand at reading later = later (not wants_operand) reading
after Ends wants_operand at reading later = Ok (parsed reading true)
after Wrong wants_operand at reading later = Err at
