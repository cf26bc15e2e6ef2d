-- The probe of a document.
use Rattle.std.specs.Prelude.{ℕ, List, [], ◌∷◌, Result, Ok, Err}
use Rattle.serde_json.specs.Data.{Data, null, boolean, number, string, array, object}
use Rattle.probe_lang.specs.Grammar.{Parsed, probe_of, most_texts}
use Rattle.probe_lang.specs.declared.probe.ProbeFault.{ProbeFault}
use Rattle.probe_lang.specs.declared.probe.ProbeFault.TheVariants as faults
use Rattle.cfg_json.specs.declared.config_fault.ConfigFault.{ConfigFault}
use Rattle.cfg_json.specs.declared.config_fault.ConfigFault.TheVariants.{WrongKind, ProbeSyntax, OutOfMemory}
use Rattle.cfg_json.specs.Values.{◌>>=◌, text_only, list_of, with_length, each}

-- the texts of a list, of which there are 1 to 33
abbrev pub texts_in : List Data → Result (List (List ℕ)) ConfigFault
texts_in items = with_length 1 most_texts items >>= each text_only

-- the texts of a probe: one text, or a list of 1 to 33 texts
abbrev pub probe_texts : Data → Result (List (List ℕ)) ConfigFault
probe_texts (string text) = Ok (text ∷ [])
probe_texts (array items) = texts_in (list_of items)
probe_texts null = Err WrongKind
probe_texts (boolean b) = Err WrongKind
probe_texts (number n) = Err WrongKind
probe_texts (object ms) = Err WrongKind

-- the grammar's answer as a configuration's
abbrev pub by_grammar : Result Parsed ℕ → Result Parsed ConfigFault
by_grammar (Ok parsed) = Ok parsed
by_grammar (Err at) = Err (ProbeSyntax at)

abbrev pub probe_in : Data → Result Parsed ConfigFault
probe_in value = probe_texts value >>= λ texts. by_grammar (probe_of texts)

-- a fault of a probe as a configuration's
abbrev pub probe_rule : ProbeFault → ConfigFault
probe_rule (faults.ProbeSyntax at) = ProbeSyntax at
probe_rule faults.OutOfMemory = OutOfMemory
