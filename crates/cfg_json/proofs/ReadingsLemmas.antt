-- Compiling patterns, one after another.
use Rattle.std.proofs.Common.{◌≡◌, ℕ, ◌+◌, ◌<◌, List, [], ◌∷◌, ◌++◌, length, take, drop, get_or, Result, Ok, Err, refl, sym, subst, ap, ◌∙◌, append-nil}
use Rattle.std.specs.List.{All, Contains, flat_map}
use Rattle.std.specs.Result.{IsErrAnd}
use Rattle.std.specs.Global.{Vec}
use Rattle.std.proofs.lemmas.List.{take-append-drop, take_more, drop_more}
use Rattle.std.proofs.lemmas.List.Elements.{All-append, Contains-append_left, Contains-append_right}
use Rattle.std.proofs.lemmas.Grind.{flat_map-append}
use Rattle.pat_gate.specs.Grammar.{IsPattern}
use Rattle.pat_gate.specs.Makers.{Maker}
use Rattle.probe_lang.specs.Matches.{texts_of, MakesPattern}
use Rattle.probe_lang.specs.declared.pattern_text.Member.{Member}
use Rattle.probe_lang.specs.declared.pattern.PatternFault.{PatternFault}
use Rattle.probe_lang.specs.declared.pattern.PatternFault.TheVariants as faults
use Rattle.cfg_json.specs.declared.config_fault.ConfigFault.{ConfigFault}
use Rattle.cfg_json.specs.declared.config_fault.ConfigFault.TheVariants.{NotJson, Fraction, MissingKey, WrongKind, OutOfRange}
use Rattle.cfg_json.specs.declared.config_fault.ConfigFault.TheVariants.{ProbeSyntax, TemplateSyntax, MuxMatchOne, PatternSyntax}
use Rattle.cfg_json.specs.declared.config_fault.ConfigFault.TheVariants.{PatternTooLarge, OutOfMemory}
use Rattle.cfg_json.specs.Configs.{Config}
use Rattle.cfg_json.specs.Readings.{MakesPatterns, GivesFault, GivesConfig, pattern_rule}
use Rattle.cfg_json.proofs.PartsLemmas.{NamesNoPattern}

-- a text of one pattern is a text of all
text_of_all : (patterns : List (List Member)) (number : ℕ) (pattern : List Member) (text : List ℕ) → number < length patterns
    → pattern ≡ get_or patterns number pattern → Contains (texts_of pattern) text → Contains (flat_map texts_of patterns) text
text_of_all patterns number pattern text less here has =
    let parts : flat_map texts_of patterns ≡ flat_map texts_of (take number patterns) ++ (texts_of pattern ++ flat_map texts_of (drop (number + 1) patterns)) =
    ap (flat_map texts_of) (sym (take-append-drop number patterns) ∙ ap (λ rest. take number patterns ++ rest)
    (drop_more patterns number pattern less ∙ ap (λ first. first ∷ drop (number + 1) patterns) (sym here)))
    ∙ flat_map-append texts_of (take number patterns) (pattern ∷ drop (number + 1) patterns) in
    rw parts (Contains-append_right (flat_map texts_of (take number patterns)) _ text (Contains-append_left (texts_of pattern) _ text has))

-- a pattern more is made
pub one_made : (patterns : List (List Member)) (number : ℕ) (pattern made : List Member) (before : List (List Member)) {after : List (List Member)}
    → number < length patterns → pattern ≡ get_or patterns number pattern → before ≡ take number patterns → after ≡ before ++ made ∷ [] → made ≡ pattern
    → after ≡ take (number + 1) patterns
one_made patterns number pattern made before less here so_far pushed same =
    rw (pushed, so_far, same) (sym (take_more patterns number pattern less ∙ ap (λ last. take number patterns ++ last ∷ []) (sym here)))

-- the grammar reads the texts of a pattern more
pub one_read : (patterns : List (List Member)) (number : ℕ) (pattern : List Member) → number < length patterns → pattern ≡ get_or patterns number pattern
    → All IsPattern (flat_map texts_of (take number patterns)) → All IsPattern (texts_of pattern)
    → All IsPattern (flat_map texts_of (take (number + 1) patterns))
one_read patterns number pattern less here before reads =
    let more : flat_map texts_of (take (number + 1) patterns) ≡ flat_map texts_of (take number patterns) ++ texts_of pattern =
    ap (flat_map texts_of) (take_more patterns number pattern less ∙ ap (λ last. take number patterns ++ last ∷ []) (sym here))
    ∙ flat_map-append texts_of (take number patterns) (pattern ∷ [])
    ∙ ap (λ last. flat_map texts_of (take number patterns) ++ last) (append-nil (texts_of pattern)) in
    rw more (All-append IsPattern (flat_map texts_of (take number patterns)) (texts_of pattern) before reads)

-- the fault of a pattern, as a configuration's
fault_of_one : (old new : Maker) (patterns : List (List Member)) (number : ℕ) (pattern : List Member) (fault : PatternFault) → number < length patterns
    → pattern ≡ get_or patterns number pattern → MakesPattern old new pattern (Err fault) → MakesPatterns old new patterns (Err (pattern_rule fault))
fault_of_one old new patterns number pattern (faults.PatternSyntax text) less here (has, bad, same) =
    (text_of_all patterns number pattern text less here has, bad, same)
fault_of_one old new patterns number pattern (faults.PatternTooLarge text) less here (has, listed) =
    (text_of_all patterns number pattern text less here has, listed)
fault_of_one old new patterns number pattern faults.OutOfMemory less here same = same

pub one_refused : (before old new : Maker) (patterns : List (List Member)) (number : ℕ) (pattern : List Member) (fault : PatternFault)
    (result : Result (Vec (List Member)) ConfigFault) → old ≡ before → number < length patterns → pattern ≡ get_or patterns number pattern
    → MakesPattern old new pattern (Err fault) → IsErrAnd result (λ rule. rule ≡ pattern_rule fault) → MakesPatterns before new patterns result
one_refused before old new patterns number pattern fault (Ok made) same less here refused e = absurd e
one_refused before old new patterns number pattern fault (Err rule) same less here refused e =
    subst (λ rule. MakesPatterns before new patterns (Err rule)) (sym e)
    (fault_of_one before new patterns number pattern fault less here (subst (λ old. MakesPattern old new pattern (Err fault)) same refused))

-- a fault of the document is the configuration's
pub document_refused : (maker : Maker) (fault : ConfigFault) (read result : Result Config ConfigFault) → NamesNoPattern read
    → IsErrAnd result (λ other. other ≡ fault) → GivesFault fault read → GivesConfig maker maker result read
document_refused maker fault read (Ok config) rules e gives = absurd e
document_refused maker fault read (Err other) rules e gives =
    subst (λ fault. GivesConfig maker maker (Err fault) read) (sym e) (gives_rule maker fault read rules gives)
  where
    gives_rule : (maker : Maker) (fault : ConfigFault) (read : Result Config ConfigFault) → NamesNoPattern read → GivesFault fault read
        → GivesConfig maker maker (Err fault) read
    gives_rule maker NotJson read rules gives = (gives, refl)
    gives_rule maker Fraction read rules gives = (gives, refl)
    gives_rule maker MissingKey read rules gives = (gives, refl)
    gives_rule maker WrongKind read rules gives = (gives, refl)
    gives_rule maker OutOfRange read rules gives = (gives, refl)
    gives_rule maker (ProbeSyntax at) read rules gives = (gives, refl)
    gives_rule maker TemplateSyntax read rules gives = (gives, refl)
    gives_rule maker MuxMatchOne read rules gives = (gives, refl)
    gives_rule maker (PatternSyntax text) read rules gives = absurd (subst NamesNoPattern gives rules)
    gives_rule maker (PatternTooLarge text) read rules gives = absurd (subst NamesNoPattern gives rules)
    gives_rule maker OutOfMemory read rules gives = refl

-- a fault of a pattern is the configuration's
pub patterns_refused : (old new : Maker) (config : Config) (patterns : List (List Member)) (fault : ConfigFault) (read result : Result Config ConfigFault)
    → read ≡ Ok config → patterns ≡ config.patterns → MakesPatterns old new patterns (Err fault) → IsErrAnd result (λ other. other ≡ fault)
    → GivesConfig old new result read
patterns_refused old new config patterns fault read (Ok other) reads same makes e = absurd e
patterns_refused old new config patterns fault read (Err other) reads same makes e =
    subst (λ fault. GivesConfig old new (Err fault) read) (sym e) (subst (λ read. GivesConfig old new (Err fault) read) (sym reads)
    (gives_pattern old new config fault (subst (λ patterns. MakesPatterns old new patterns (Err fault)) same makes)))
  where
    gives_pattern : (old new : Maker) (config : Config) (fault : ConfigFault) → MakesPatterns old new config.patterns (Err fault)
        → GivesConfig old new (Err fault) (Ok config)
    gives_pattern old new config NotJson makes = absurd makes
    gives_pattern old new config Fraction makes = absurd makes
    gives_pattern old new config MissingKey makes = absurd makes
    gives_pattern old new config WrongKind makes = absurd makes
    gives_pattern old new config OutOfRange makes = absurd makes
    gives_pattern old new config (ProbeSyntax at) makes = absurd makes
    gives_pattern old new config TemplateSyntax makes = absurd makes
    gives_pattern old new config MuxMatchOne makes = absurd makes
    gives_pattern old new config (PatternSyntax text) makes = makes
    gives_pattern old new config (PatternTooLarge text) makes = makes
    gives_pattern old new config OutOfMemory makes = makes
