-- What the calls answer that read a document.
use Rattle.std.specs.Prelude.{ℕ, ◌≡◌, ⊤, ℤ, List, map, Option, Some, Result, Ok, Err, IsOkAnd}
use Rattle.std.specs.List.{All, Contains, flat_map}
use Rattle.std.specs.Borrow.{Bor}
use Rattle.std.specs.Global.{Vec}
use Rattle.arrayvec.specs.ArrayVec.{ArrayVec}
use Rattle.bmc_base.specs.declared.milli.Milli.{Milli}
use Rattle.serde_json.specs.Data.{Data}
use Rattle.serde_json.specs.View.{view}
use Rattle.serde_json.specs.declared.value.Value.{Value}
use Rattle.pat_gate.specs.Grammar.{IsPattern, IsBad}
use Rattle.pat_gate.specs.Makers.{Maker, with_refused}
use Rattle.probe_lang.specs.Matches.{texts_of}
use Rattle.probe_lang.specs.declared.pattern_text.Member.{Member}
use Rattle.probe_lang.specs.declared.pattern.PatternFault.{PatternFault}
use Rattle.probe_lang.specs.declared.pattern.PatternFault.TheVariants as faults
use Rattle.tmpl.specs.declared.template.TmplFault.{TmplFault}
use Rattle.tmpl.specs.declared.template.TmplFault.TheVariants as templates
use Rattle.cfg_json.specs.Configs.{Config, pattern_texts}
use Rattle.cfg_json.specs.Documents.{config_of}
use Rattle.cfg_json.specs.Stepwises.{in_milli}
use Rattle.cfg_json.specs.declared.config_fault.ConfigFault.{ConfigFault}
use Rattle.cfg_json.specs.declared.config_fault.ConfigFault.TheVariants.{TemplateSyntax, PatternSyntax, PatternTooLarge, OutOfMemory}

-- the configuration is read, and this is one of the texts of its patterns
abbrev pub HasText : Result Config ConfigFault → List ℕ → Type 0
HasText read text = IsOkAnd read (λ config. Contains (pattern_texts config) text)

-- what is answered of a document, of which this is the reading: the configuration, of which the grammar reads each pattern; or a text of its
-- patterns that is bad, or that the maker refused as too large and lists; or the rule that the document breaks. Want of memory says nothing
-- of it.
abbrev pub GivesConfig : Maker → Maker → Result Config ConfigFault → Result Config ConfigFault → Type 0
GivesConfig old new (Ok config) read = (read ≡ Ok config) × All IsPattern (pattern_texts config) × (new ≡ old)
GivesConfig old new (Err (PatternSyntax text)) read = HasText read text × IsBad text × (new ≡ old)
GivesConfig old new (Err (PatternTooLarge text)) read = HasText read text × (new ≡ with_refused old text)
GivesConfig old new (Err OutOfMemory) read = new ≡ old
GivesConfig old new (Err fault) read = (read ≡ Err fault) × (new ≡ old)

-- want of memory says nothing of a document; another fault is the one that reading gives
abbrev pub GivesFault : {A : Type 0} → ConfigFault → Result A ConfigFault → Type 0
GivesFault OutOfMemory read = ⊤
GivesFault fault read = read ≡ Err fault

-- what is read of a part of a document, or the fault that reading gives
abbrev pub Gives : {A : Type 0} → Result A ConfigFault → Result A ConfigFault → Type 0
Gives (Ok part) read = read ≡ Ok part
Gives (Err fault) read = GivesFault fault read

-- the document that was read, or the fault that it gives
abbrev pub GivesDocument : Result Value ConfigFault → Option Data → Type 0
GivesDocument (Ok document) read = read ≡ Some (view document)
GivesDocument (Err fault) read = GivesFault fault (config_of read)

-- the member, or why it is none
abbrev pub GivesMember : Result (Bor Value) ConfigFault → Result Data ConfigFault → Type 0
GivesMember (Ok member) found = found ≡ Ok (view member.now)
GivesMember (Err fault) found = found ≡ Err fault

-- the text, or why it is none
abbrev pub GivesText : Result (Bor (List ℕ)) ConfigFault → Result (List ℕ) ConfigFault → Type 0
GivesText (Ok text) found = found ≡ Ok text.now
GivesText (Err fault) found = found ≡ Err fault

-- the elements of a list, or why it is none
abbrev pub GivesList : Result (Bor (List Value)) ConfigFault → Result (List Data) ConfigFault → Type 0
GivesList (Ok items) found = found ≡ Ok (map view items.now)
GivesList (Err fault) found = found ≡ Err fault

-- the texts of a list, or why one is none
abbrev pub GivesTexts : Result (ArrayVec (Bor (List ℕ))) ConfigFault → Result (List (List ℕ)) ConfigFault → Type 0
GivesTexts (Ok texts) found = found ≡ Ok (map (λ text. text.now) texts.items)
GivesTexts (Err fault) found = found ≡ Err fault

-- the thousandths of a list, or why one is none
abbrev pub GivesColumn : Result (ArrayVec ℤ) ConfigFault → Result (List Milli) ConfigFault → Type 0
GivesColumn (Ok column) found = found ≡ Ok (map in_milli column.items)
GivesColumn (Err fault) found = found ≡ Err fault

-- a fault of a template as a configuration's
abbrev pub template_rule : TmplFault → ConfigFault
template_rule templates.TemplateSyntax = TemplateSyntax
template_rule templates.OutOfMemory = OutOfMemory

-- a fault of a pattern as a configuration's
abbrev pub pattern_rule : PatternFault → ConfigFault
pattern_rule (faults.PatternSyntax text) = PatternSyntax text
pattern_rule (faults.PatternTooLarge text) = PatternTooLarge text
pattern_rule faults.OutOfMemory = OutOfMemory

-- what is made of patterns: the grammar reads each text; or a text of them is bad, or the maker refused it as too large and lists it
abbrev pub MakesPatterns : Maker → Maker → List (List Member) → Result (Vec (List Member)) ConfigFault → Type 0
MakesPatterns old new patterns (Ok made) = (made.items ≡ patterns) × All IsPattern (flat_map texts_of patterns) × (new ≡ old)
MakesPatterns old new patterns (Err (PatternSyntax text)) = Contains (flat_map texts_of patterns) text × IsBad text × (new ≡ old)
MakesPatterns old new patterns (Err (PatternTooLarge text)) = Contains (flat_map texts_of patterns) text × (new ≡ with_refused old text)
MakesPatterns old new patterns (Err OutOfMemory) = new ≡ old
MakesPatterns old new patterns (Err fault) = ⊥
