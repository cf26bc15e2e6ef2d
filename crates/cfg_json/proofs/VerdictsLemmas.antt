-- Answers as verdicts.
use Rattle.std.proofs.Common.{◌≡◌, List, ℕ, ◌++◌, [], Result, Ok, Err, refl, ap, sym, subst, ◌∙◌}
use Rattle.std.proofs.lemmas.List.{append-nil}
use Rattle.pat_gate.specs.Makers.{Maker}
use Rattle.pat_gate.specs.Grammar.{IsBad}
use Rattle.cfg_json.specs.Configs.{Config}
use Rattle.cfg_json.specs.Readings.{GivesConfig, HasText}
use Rattle.cfg_json.specs.Verdicts.{Accepted, BadPattern, LargePattern, TiedToReading, large_in, verdict_of}
use Rattle.cfg_json.specs.declared.config_fault.ConfigFault.{ConfigFault}
use Rattle.cfg_json.specs.declared.config_fault.ConfigFault.TheVariants.{NotJson, Fraction, MissingKey, WrongKind, OutOfRange}
use Rattle.cfg_json.specs.declared.config_fault.ConfigFault.TheVariants.{ProbeSyntax, TemplateSyntax, MuxMatchOne, PatternSyntax}
use Rattle.cfg_json.specs.declared.config_fault.ConfigFault.TheVariants.{PatternTooLarge, OutOfMemory}

same_list : (old new : Maker) → new ≡ old → new.refused ≡ old.refused ++ []
same_list old new same = ap (λ (maker : Maker). maker.refused) same ∙ sym (append-nil old.refused)

-- a rule that is broken says nothing of patterns
by_rule : (old new : Maker) (fault : ConfigFault) (read : Result Config ConfigFault) → (read ≡ Err fault) × (new ≡ old)
    → TiedToReading read Accepted × (new.refused ≡ old.refused ++ [])
by_rule old new fault read (e, same) = (subst (λ read. TiedToReading read Accepted) (sym e) refl, same_list old new same)

bad_text : (read : Result Config ConfigFault) (text : List ℕ) → HasText read text → IsBad text → TiedToReading read (BadPattern text)
bad_text (Ok config) text has bad = (has, bad)
bad_text (Err fault) text has bad = absurd has

large_text : (read : Result Config ConfigFault) (text : List ℕ) → HasText read text → TiedToReading read (LargePattern text)
large_text (Ok config) text has = has
large_text (Err fault) text has = absurd has

-- what is answered of a document is a verdict that is tied to its reading, and the maker lists what it calls too large
pub gives_ties : (old new : Maker) (result read : Result Config ConfigFault) → GivesConfig old new result read → (result ≡ Err OutOfMemory → ⊥)
    → TiedToReading read (verdict_of result) × (new.refused ≡ old.refused ++ large_in (verdict_of result))
gives_ties old new (Ok config) read (e, patterns, same) memory = (subst (λ read. TiedToReading read Accepted) (sym e) patterns, same_list old new same)
gives_ties old new (Err NotJson) read gives memory = by_rule old new NotJson read gives
gives_ties old new (Err Fraction) read gives memory = by_rule old new Fraction read gives
gives_ties old new (Err MissingKey) read gives memory = by_rule old new MissingKey read gives
gives_ties old new (Err WrongKind) read gives memory = by_rule old new WrongKind read gives
gives_ties old new (Err OutOfRange) read gives memory = by_rule old new OutOfRange read gives
gives_ties old new (Err (ProbeSyntax at)) read gives memory = by_rule old new (ProbeSyntax at) read gives
gives_ties old new (Err TemplateSyntax) read gives memory = by_rule old new TemplateSyntax read gives
gives_ties old new (Err MuxMatchOne) read gives memory = by_rule old new MuxMatchOne read gives
gives_ties old new (Err (PatternSyntax text)) read (has, bad, same) memory = (bad_text read text has bad, same_list old new same)
gives_ties old new (Err (PatternTooLarge text)) read (has, listed) memory = (large_text read text has, ap (λ (maker : Maker). maker.refused) listed)
gives_ties old new (Err OutOfMemory) read gives memory = absurd (memory refl)
