-- Reading a part of a document names no pattern.
use Rattle.std.specs.Prelude.{⊤, ℤ, pos, neg_ℤ, ◌*ℤ◌}
use Rattle.std.proofs.Common.{◌&&◌, ℕ, Bool, true, false, nat_le, if◌then◌else◌, List, [], ◌∷◌, length, Option, Some, None, Result, Ok, Err}
use Rattle.bmc_base.specs.Names.{longest_name}
use Rattle.serde_json.specs.Data.{Num, Data, null, boolean, number, string, array, object}
use Rattle.serde_json.specs.Find.{as_integer}
use Rattle.bmc_text.specs.Words.{decimal_units}
use Rattle.tmpl.specs.Templates.{is_template, longest_template}
use Rattle.cfg_json.specs.declared.config_fault.ConfigFault.{ConfigFault}
use Rattle.cfg_json.specs.declared.config_fault.ConfigFault.TheVariants.{OutOfRange, TemplateSyntax, PatternSyntax, PatternTooLarge}
use Rattle.cfg_json.specs.Values.{◌>>=◌, required, text_only, object_only, list_only, with_length, short_text, each}
use Rattle.cfg_json.specs.Values.{kind_only, is_between, int_within, whole_units, decimal_units_within, milli_within, any_milli}
use Rattle.cfg_json.specs.Values.{whole_number, whole_micro, decimal_micro, any_micro, whole_within, member_or, optional}
use Rattle.cfg_json.specs.Names.{template_name}

-- a fault that names no pattern
abbrev pub IsNoPattern : ConfigFault → Type 0
IsNoPattern (PatternSyntax text) = ⊥
IsNoPattern (PatternTooLarge text) = ⊥
IsNoPattern fault = ⊤

abbrev pub NamesNoPattern : {A : Type 0} → Result A ConfigFault → Type 0
NamesNoPattern (Ok part) = ⊤
NamesNoPattern (Err fault) = IsNoPattern fault

pub then_none : {A B : Type 0} (part : Result A ConfigFault) (next : A → Result B ConfigFault) → NamesNoPattern part
    → ((value : A) → NamesNoPattern (next value)) → NamesNoPattern (part >>= next)
then_none (Ok value) next none later = later value
then_none (Err fault) next none later = none

pub each_none : {A B : Type 0} (read : A → Result B ConfigFault) → ((value : A) → NamesNoPattern (read value)) → (values : List A)
    → NamesNoPattern (each read values)
each_none read none [] = tt
each_none read none (value ∷ values) =
    then_none (read value) _ (none value) (λ first. then_none (each read values) _ (each_none read none values) (λ later. tt))

pub where_none : {A : Type 0} (b : Bool) (part other : Result A ConfigFault) → NamesNoPattern part → NamesNoPattern other
    → NamesNoPattern (if b then part else other)
where_none true part other none none_else = none
where_none false part other none none_else = none_else

pub length_none : {A : Type 0} (least most : ℕ) (items : List A) → NamesNoPattern (with_length least most items)
length_none least most items = where_none (nat_le least (length items) && nat_le (length items) most) (Ok items) (Err OutOfRange) tt tt

pub required_none : (found : Option Data) → NamesNoPattern (required found)
required_none None = tt
required_none (Some member) = tt

-- a member that has to be there, and what reads it
pub wanted_none : {A : Type 0} (read : Data → Result A ConfigFault) → ((member : Data) → NamesNoPattern (read member)) → (found : Option Data)
    → NamesNoPattern (required found >>= read)
wanted_none read none found = then_none (required found) read (required_none found) none

pub text_none : (value : Data) → NamesNoPattern (text_only value)
text_none null = tt
text_none (boolean b) = tt
text_none (number n) = tt
text_none (string text) = tt
text_none (array items) = tt
text_none (object ms) = tt

pub object_none : (value : Data) → NamesNoPattern (object_only value)
object_none null = tt
object_none (boolean b) = tt
object_none (number n) = tt
object_none (string text) = tt
object_none (array items) = tt
object_none (object ms) = tt

pub list_none : (value : Data) → NamesNoPattern (list_only value)
list_none null = tt
list_none (boolean b) = tt
list_none (number n) = tt
list_none (string text) = tt
list_none (array items) = tt
list_none (object ms) = tt

pub short_none : (value : Data) → NamesNoPattern (short_text value)
short_none value = then_none (text_only value) _ (text_none value) (length_none 1 longest_name)

pub name_none : (value : Data) → NamesNoPattern (template_name value)
name_none value =
    then_none (text_only value >>= with_length 1 longest_template) _ (then_none (text_only value) _ (text_none value) (length_none 1 longest_template))
    (λ text. where_none (is_template text) (Ok text) (Err TemplateSyntax) tt tt)

pub kind_only_none : {A : Type 0} (found : Option A) → NamesNoPattern (kind_only found)
kind_only_none None = tt
kind_only_none (Some value) = tt

pub within_none : (least most value : ℤ) → NamesNoPattern (int_within least most value)
within_none least most value = where_none (is_between least most value) (Ok value) (Err OutOfRange) tt tt

pub whole_none : (least most : ℤ) (n : Num) → NamesNoPattern (whole_units least most n)
whole_none least most n =
    then_none (kind_only (as_integer n) >>= int_within least most) _
    (then_none (kind_only (as_integer n)) _ (kind_only_none (as_integer n)) (within_none least most)) (λ units. tt)

pub decimal_none : (least most : ℤ) (text : List ℕ) → NamesNoPattern (decimal_units_within least most text)
decimal_none least most text =
    then_none (kind_only (decimal_units 3 text) >>= int_within (least *ℤ pos 1000) (most *ℤ pos 1000)) _
    (then_none (kind_only (decimal_units 3 text)) _ (kind_only_none (decimal_units 3 text)) (within_none (least *ℤ pos 1000) (most *ℤ pos 1000)))
    (λ thousandths. tt)

pub milli_none : (least most : ℤ) (value : Data) → NamesNoPattern (milli_within least most value)
milli_none least most null = tt
milli_none least most (boolean b) = tt
milli_none least most (number n) = whole_none least most n
milli_none least most (string text) = decimal_none least most text
milli_none least most (array items) = tt
milli_none least most (object ms) = tt

pub member_none : {A : Type 0} (value : A) (read : Data → Result A ConfigFault) → ((member : Data) → NamesNoPattern (read member)) → (found : Option Data)
    → NamesNoPattern (member_or value read found)
member_none value read none None = tt
member_none value read none (Some member) = none member

pub optional_none : {A : Type 0} (read : Data → Result A ConfigFault) → ((member : Data) → NamesNoPattern (read member)) → (found : Option Data)
    → NamesNoPattern (optional read found)
optional_none read none None = tt
optional_none read none (Some member) = then_none (read member) _ (none member) (λ value. tt)

pub whole_number_none : (least most : ℤ) (n : Num) → NamesNoPattern (whole_number least most n)
whole_number_none least most n = then_none (kind_only (as_integer n)) _ (kind_only_none (as_integer n)) (within_none least most)

pub whole_within_none : (least most : ℤ) (value : Data) → NamesNoPattern (whole_within least most value)
whole_within_none least most null = tt
whole_within_none least most (boolean b) = tt
whole_within_none least most (number n) = whole_number_none least most n
whole_within_none least most (string text) = tt
whole_within_none least most (array items) = tt
whole_within_none least most (object ms) = tt

pub any_none : (value : Data) → NamesNoPattern (any_milli value)
any_none = milli_none (neg_ℤ (pos 1000000)) (pos 1000000)

whole_micro_none : (n : Num) → NamesNoPattern (whole_micro n)
whole_micro_none n =
    then_none (whole_number (neg_ℤ (pos 1000000)) (pos 1000000) n) _ (whole_number_none (neg_ℤ (pos 1000000)) (pos 1000000) n) (λ units. tt)

decimal_micro_none : (text : List ℕ) → NamesNoPattern (decimal_micro text)
decimal_micro_none text =
    then_none (kind_only (decimal_units 6 text)) _ (kind_only_none (decimal_units 6 text)) (within_none (neg_ℤ (pos 1000000000000)) (pos 1000000000000))

pub micro_none : (value : Data) → NamesNoPattern (any_micro value)
micro_none null = tt
micro_none (boolean b) = tt
micro_none (number n) = whole_micro_none n
micro_none (string text) = decimal_micro_none text
micro_none (array items) = tt
micro_none (object ms) = tt
