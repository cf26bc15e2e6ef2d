-- The compiled members of a pattern.
use Rattle.std.specs.Prelude.{ℕ, ◌≡◌, ⊤, false, List, codes, bytes_eq, Option, Some, Result, Ok, Err}
use Rattle.std.specs.Option.{IfSome}
use Rattle.fru_area.specs.Names.{name_text, IsName}
use Rattle.fru_area.specs.declared.name.FieldName.{FieldName}
use Rattle.pat_gate.specs.Grammar.{IsPattern, IsBad}
use Rattle.pat_gate.specs.Makers.{Maker, with_refused}
use Rattle.probe_lang.specs.declared.key.Key.{Key}
use Rattle.probe_lang.specs.declared.key.Key.TheVariants.{Bus, Address, Field, Unknown}
use Rattle.probe_lang.specs.declared.test.Test.{Test}
use Rattle.probe_lang.specs.declared.test.Test.TheVariants as tests
use Rattle.probe_lang.specs.declared.pattern_text.Want.{Want}
use Rattle.probe_lang.specs.declared.pattern_text.Want.TheVariants as wants
use Rattle.probe_lang.specs.declared.pattern.PatternFault.{PatternFault}
use Rattle.probe_lang.specs.declared.pattern.PatternFault.TheVariants.{PatternSyntax, PatternTooLarge, OutOfMemory}

-- the text of a key
abbrev pub key_text : Key → List ℕ
key_text Bus = codes "BUS"
key_text Address = codes "ADDRESS"
key_text (Field name) = name_text name
key_text (Unknown text) = text

-- the text is neither `BUS` nor `ADDRESS`
abbrev pub NamesNoPart : List ℕ → Type 0
NamesNoPart text = (bytes_eq text (codes "BUS") ≡ false) × (bytes_eq text (codes "ADDRESS") ≡ false)

-- no field has this name
abbrev pub NamesNoField : List ℕ → Type 0
NamesNoField text = (name : FieldName) → IsName name → name_text name ≡ text → ⊥

-- the key is what its text names
abbrev pub IsKey : Key → Type 0
IsKey Bus = ⊤
IsKey Address = ⊤
IsKey (Field name) = NamesNoPart (name_text name)
IsKey (Unknown text) = NamesNoPart text × NamesNoField text

-- what a test wants
abbrev pub want_of : Test → Want
want_of (tests.Pattern pattern) = wants.Pattern pattern
want_of (tests.Number n) = wants.Number n

-- what is made of a text, or without one: the grammar reads it, or it is bad or too large; the maker lists it only where it is too large
abbrev pub MakesOne : {X Y : Type 0} → (X → Y) → Maker → Maker → Option (List ℕ) → Y → Result X PatternFault → Type 0
MakesOne seen old new text wanted (Ok made) = (seen made ≡ wanted) × IfSome text IsPattern × (new ≡ old)
MakesOne seen old new text wanted (Err (PatternSyntax refused)) = (text ≡ Some refused) × IsBad refused × (new ≡ old)
MakesOne seen old new text wanted (Err (PatternTooLarge refused)) = (text ≡ Some refused) × (new ≡ with_refused old refused)
MakesOne seen old new text wanted (Err OutOfMemory) = new ≡ old
