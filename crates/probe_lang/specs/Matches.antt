-- Whether a pattern matches the record at a place.
use Rattle.std.specs.Prelude.{ℕ, ◌≡◌, Bool, false, if◌then◌else◌, List, codes, bytes_eq, Option, Some, None, Result, Ok, Err}
use Rattle.std.specs.List.{list_all, All, Contains, filter_map}
use Rattle.std.specs.Fmt.{decimal, signed_decimal}
use Rattle.bmc_base.specs.Places.{Place}
use Rattle.fru_area.specs.declared.field.Field.{Field}
use Rattle.fru_record.specs.Lookups.{text_named}
use Rattle.pat_gate.specs.Grammar.{has_match, IsPattern, IsBad}
use Rattle.pat_gate.specs.Makers.{Maker, with_refused}
use Rattle.probe_lang.specs.declared.pattern_text.Want.{Want}
use Rattle.probe_lang.specs.declared.pattern_text.Want.TheVariants as wants
use Rattle.probe_lang.specs.declared.pattern_text.Member.{Member}
use Rattle.probe_lang.specs.declared.pattern.PatternFault.{PatternFault}
use Rattle.probe_lang.specs.declared.pattern.PatternFault.TheVariants.{PatternSyntax, PatternTooLarge, OutOfMemory}

-- the text that a key names: the bus and the address of the place in decimal, or the text of a field
abbrev pub text_at : Place → List Field → List ℕ → Option (List ℕ)
text_at place fields key =
    if bytes_eq key (codes "BUS") then Some (decimal place.bus)
    else if bytes_eq key (codes "ADDRESS") then Some (decimal place.address)
    else text_named fields key

-- whether a text is as wanted: the pattern has a match in it, or it is the decimal of the number
abbrev pub is_wanted : Want → Option (List ℕ) → Bool
is_wanted want None = false
is_wanted (wants.Pattern pattern) (Some text) = has_match pattern text
is_wanted (wants.Number n) (Some text) = bytes_eq text (signed_decimal n)

abbrev pub member_matches : Place → List Field → Member → Bool
member_matches place fields member = is_wanted member.want (text_at place fields member.key)

-- a pattern matches where each of its members does
unfoldable pub matches : List Member → Place → List Field → Bool
matches members place fields = list_all (member_matches place fields) members

-- the text of what is wanted that is compiled
abbrev pub want_text : Want → Option (List ℕ)
want_text (wants.Pattern text) = Some text
want_text (wants.Number n) = None

-- the text that a member has compiled
abbrev pub pattern_text : Member → Option (List ℕ)
pattern_text member = want_text member.want

-- the texts of a pattern that are compiled, in the order of its members
abbrev pub texts_of : List Member → List (List ℕ)
texts_of members = filter_map pattern_text members

-- what is made of the members of a pattern: the grammar reads each text, or one of them is bad or too large; the maker lists that one alone
abbrev pub MakesPattern : Maker → Maker → List Member → Result (List Member) PatternFault → Type 0
MakesPattern old new members (Ok pattern) = (pattern ≡ members) × All IsPattern (texts_of members) × (new ≡ old)
MakesPattern old new members (Err (PatternSyntax text)) = Contains (texts_of members) text × IsBad text × (new ≡ old)
MakesPattern old new members (Err (PatternTooLarge text)) = Contains (texts_of members) text × (new ≡ with_refused old text)
MakesPattern old new members (Err OutOfMemory) = new ≡ old
