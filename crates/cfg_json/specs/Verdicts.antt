-- What a maker says of the patterns of a configuration that breaks no other rule.
use Rattle.std.specs.Prelude.{ℕ, ◌≡◌, List, [], ◌∷◌, Result, Ok, Err}
use Rattle.std.specs.List.{All, Contains}
use Rattle.pat_gate.specs.Grammar.{IsPattern, IsBad}
use Rattle.cfg_json.specs.Configs.{Config, pattern_texts}
use Rattle.cfg_json.specs.declared.config_fault.ConfigFault.{ConfigFault}
use Rattle.cfg_json.specs.declared.config_fault.ConfigFault.TheVariants.{PatternSyntax, PatternTooLarge}

-- it compiles them all, or a text is no pattern, or too large
pub data Verdict : Type 0 where
  Accepted : Verdict
  BadPattern : List ℕ → Verdict
  LargePattern : List ℕ → Verdict

-- a verdict speaks of the patterns of a configuration: the grammar reads all that are accepted, a bad text is one that it does not read,
-- and both other verdicts name a text of the configuration
abbrev pub TiedTo : Config → Verdict → Type 0
TiedTo config Accepted = All IsPattern (pattern_texts config)
TiedTo config (BadPattern text) = Contains (pattern_texts config) text × IsBad text
TiedTo config (LargePattern text) = Contains (pattern_texts config) text

-- where no configuration is read, nothing is said of patterns
abbrev pub TiedToReading : Result Config ConfigFault → Verdict → Type 0
TiedToReading (Ok config) verdict = TiedTo config verdict
TiedToReading (Err rule) verdict = verdict ≡ Accepted

-- the texts that verdicts call too large, in their order
abbrev pub large_in : Verdict → List (List ℕ)
large_in Accepted = []
large_in (BadPattern text) = []
large_in (LargePattern text) = text ∷ []

-- what an answer says of the patterns, where it is no want of memory
abbrev pub verdict_of : Result Config ConfigFault → Verdict
verdict_of (Ok config) = Accepted
verdict_of (Err (PatternSyntax text)) = BadPattern text
verdict_of (Err (PatternTooLarge text)) = LargePattern text
verdict_of (Err fault) = Accepted
